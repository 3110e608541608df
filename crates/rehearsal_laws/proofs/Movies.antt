-- The movie of a number is accepted: what is read of its file.
use Rattle.std.proofs.Common.{◌≡◌, ℕ, ◌+◌, ◌*◌, ◌^◌, ◌<◌, ◌≤◌, false, eqb, ne_eqb, FitsSigned, pos, List, [], ◌∷◌, length, map, Some, refl, sym, ap, ap₂, subst, ◌∙◌, arith, length-append}
use Rattle.std.specs.Prelude.{◌-◌, ◌%◌, flat_map, option_map, replicate, sum_by}
use Rattle.std.proofs.lemmas.List.{length-replicate}
use Rattle.vod_bytes.specs.Fields.{be32}
use Rattle.vod_gen.specs.Tables.{offset_table, sync_table}
use Rattle.vod_gen.proofs.Rows.{aac_entry_is_taken, avc_entry_is_taken}
use Rattle.std.specs.Int.{w32}
use Rattle.std.specs.List.{range_with_len, AllByRecursion}
use Rattle.std.proofs.lemmas.Int.{fits_signed_from_abs}
use Rattle.std.proofs.lemmas.List.{length-map}
use Rattle.std.proofs.lemmas.List.Concat.{length-flat_map}
use Rattle.std.proofs.lemmas.List.Sums.{sum_by-cons}
use Rattle.mp4_model.specs.Entries.{sample_entry}
use Rattle.mp4_model.specs.Tables.{SampleTables}
use Rattle.mp4_model.specs.Validity.{first_broken_table}
use Rattle.mp4_model.specs.GoodTracks.{total_units}
use Rattle.vod_gen.specs.declared.spec.TrackSpec.{TrackSpec}
use Rattle.vod_gen.specs.Entries.{aac_entry, avc_entry, avc_configuration}
use Rattle.vod_gen.specs.MovieFile.{sample_bytes}
use Rattle.vod_gen.specs.Numbered.{TrackLists, lists_of, video_length, video_header, audio_sample, audio_samples, audio_track, is_sync, sync_numbers, video_count, video_sample, video_samples, video_track}
use Rattle.vod_gen.specs.BuiltTracks.{HasFields, KeepsRules, stated_tables}
use Rattle.rehearsal_laws.proofs.Ranges.{each_number, few_numbers, given, not_given, sum_made}
use Rattle.rehearsal_laws.proofs.Tables.{video_many, few_runs, runs_fit, video_tables, length-video_samples, video_is_good, video_is_short, audio_tables, length-audio_samples, audio_is_good, audio_is_short}
use Rattle.rehearsal_laws.proofs.Room.{IsSmall, table_given, none_given, offset_room, sync_room}

-- ---- a track with these lists

lengths_of : {V : Type 0} (items : V → List ℕ) (xs : List V) → map (λ x. length (items x)) xs ≡ map (λ s. length s) (map items xs)
lengths_of items [] = refl
lengths_of items (x ∷ xs) = ap (λ (l : List ℕ). length (items x) ∷ l) (lengths_of items xs)

-- how many bytes as many samples have
bytes_of : {V : Type 0} (items : V → List ℕ) (xs : List V) (most : ℕ) (f : ℕ → List ℕ) (k : ℕ) → map items xs ≡ map f (range_with_len 0 k) → ((i : ℕ) → length (f i) ≤ most) → length (flat_map items xs) ≤ most * k
bytes_of items xs most f k e h = omega (arith, length-flat_map items xs, sum_lengths items xs, ap (sum_by (λ s. length s)) e, sum_made (λ s. length s) f most 0 k h)
  where
    sum_lengths : {V : Type 0} (items : V → List ℕ) (xs : List V) → sum_by (λ x. length (items x)) xs ≡ sum_by (λ s. length s) (map items xs)
    sum_lengths items [] = refl
    sum_lengths items (x ∷ xs) = sum_by-cons (λ x. length (items x)) x xs ∙ ap (λ (n : ℕ). length (items x) + n) (sum_lengths items xs) ∙ sym (sum_by-cons (λ s. length s) (items x) (map items xs))

module _ (t : TrackSpec) (l : TrackLists) (is : lists_of t ≡ l) where
  same_kind_of : t.kind ≡ l.kind
  same_kind_of = ap (λ x. x.kind) is

  same_timescale : t.timescale ≡ l.timescale
  same_timescale = ap (λ x. x.timescale) is

  same_stts : t.stts.items ≡ l.stts
  same_stts = ap (λ x. x.stts) is

  same_ctts : option_map (λ runs. runs.items) t.ctts ≡ l.ctts
  same_ctts = ap (λ x. x.ctts) is

  same_stss : option_map (λ numbers. numbers.items) t.stss ≡ l.stss
  same_stss = ap (λ x. x.stss) is

  same_samples : map (λ s. s.items) t.samples.items ≡ l.samples
  same_samples = ap (λ x. x.samples) is

  same_entry : t.entry.items ≡ l.entry
  same_entry = ap (λ x. x.entry) is

  same_count : length t.samples.items ≡ length l.samples
  same_count = sym (length-map t.samples.items (λ s. s.items)) ∙ ap length same_samples

  same_sizes : map (λ s. length s.items) t.samples.items ≡ map (λ s. length s) l.samples
  same_sizes = lengths_of (λ s. s.items) t.samples.items ∙ ap (map (λ s. length s)) same_samples

-- ---- the video

module _ (n : ℕ) (t : TrackSpec) (is : lists_of t ≡ video_track n) where
  video_stated : (place : ℕ) → stated_tables place t ≡ video_tables n place
  video_stated place =
      let count : length t.samples.items ≡ video_count n = same_count t (video_track n) is ∙ length-video_samples n in
      let some : eqb (length t.samples.items) 0 ≡ false = ne_eqb _ _ (λ e. absurd (omega (arith, count, (video_many n).0, e))) in
      rw (same_stts t (video_track n) is, same_ctts t (video_track n) is, same_stss t (video_track n) is, some, count, same_sizes t (video_track n) is) refl

  sync_fields : AllByRecursion (λ m. m < 2 ^ 32) (sync_numbers n)
  unfolding sync_numbers
  sync_fields = each_number (λ m. m < 2 ^ 32) (is_sync n) 0 (video_count n) (λ i h. omega (arith, h, (video_many n).1))

  video_fields : HasFields t
  video_fields = record {
    timescale = (omega (arith, same_timescale t (video_track n) is), omega (arith, same_timescale t (video_track n) is));
    durations = subst (AllByRecursion (λ run. (run.0 < 2 ^ 32) × (run.1 < 2 ^ 32))) (sym (same_stts t (video_track n) is)) (runs_fit n);
    offsets =
        given (λ runs. runs.items) (AllByRecursion (λ run. (run.0 < 2 ^ 32) × FitsSigned w32 run.1)) t.ctts ((video_count n, pos 2) ∷ []) (same_ctts t (video_track n) is)
        ((omega (arith, (video_many n).1), fits_signed_from_abs w32 (pos 2) (omega arith)), tt);
    numbers = given (λ numbers. numbers.items) (AllByRecursion (λ m. m < 2 ^ 32)) t.stss (sync_numbers n) (same_stss t (video_track n) is) sync_fields;
  }

  pub video_keeps : KeepsRules t
  video_keeps = record {
    fields = video_fields;
    tables = ap (λ (tables : SampleTables). first_broken_table tables t.timescale) (video_stated 0) ∙ ap (first_broken_table (video_tables n 0)) (same_timescale t (video_track n) is) ∙ video_is_good n 0;
    short = subst (λ (tables : SampleTables). total_units tables t.timescale ≤ 2 ^ 40) (sym (video_stated 0))
        (subst (λ (timescale : ℕ). total_units (video_tables n 0) timescale ≤ 2 ^ 40) (sym (same_timescale t (video_track n) is)) (video_is_short n 0));
  }

  pub video_taken : sample_entry t.kind t.entry.items ≡ Some (record { config = avc_configuration; width = 640; height = 360 })
  video_taken = ap₂ sample_entry (same_kind_of t (video_track n) is) (same_entry t (video_track n) is) ∙ avc_entry_is_taken

  video_bytes : (i : ℕ) → length (video_sample n i) ≤ 205
  unfolding video_sample
  video_bytes i =
      omega (arith, length-append (be32 (video_length n i)) (video_header n i ∷ replicate (video_length n i - 1) (i % 256)), length-replicate (video_length n i - 1) (i % 256))

  pub video_media : length (sample_bytes t) ≤ 205 * 9750
  unfolding sample_bytes video_samples
  video_media = omega (arith, bytes_of (λ s. s.items) t.samples.items 205 (video_sample n) (video_count n) (same_samples t (video_track n) is) video_bytes, (video_many n).1)

  pub video_small : IsSmall t
  unfolding sync_numbers avc_entry
  video_small = record {
    entry = omega (arith, ap length (same_entry t (video_track n) is));
    durations = omega (arith, ap length (same_stts t (video_track n) is), few_runs n);
    offsets = omega (arith, ap length (table_given offset_table (λ runs. runs.items) t.ctts ((video_count n, pos 2) ∷ []) (same_ctts t (video_track n) is)), offset_room ((video_count n, pos 2) ∷ []));
    numbers = omega (
      arith,
      ap length (table_given sync_table (λ numbers. numbers.items) t.stss (sync_numbers n) (same_stss t (video_track n) is)),
      sync_room (sync_numbers n),
      few_numbers (is_sync n) 0 (video_count n),
      (video_many n).1,
    );
    samples = omega (arith, same_count t (video_track n) is, length-video_samples n, (video_many n).1);
  }

-- ---- the audio

module _ (n : ℕ) (t : TrackSpec) (is : lists_of t ≡ audio_track n) where
  audio_stated : (place : ℕ) → stated_tables place t ≡ audio_tables n place
  audio_stated place =
      let count : length t.samples.items ≡ 15000 = same_count t (audio_track n) is ∙ length-audio_samples n in
      rw (same_stts t (audio_track n) is, same_ctts t (audio_track n) is, same_stss t (audio_track n) is, count, same_sizes t (audio_track n) is) refl

  audio_fields : HasFields t
  audio_fields = record {
    timescale = (omega (arith, same_timescale t (audio_track n) is), omega (arith, same_timescale t (audio_track n) is));
    durations = subst (AllByRecursion (λ run. (run.0 < 2 ^ 32) × (run.1 < 2 ^ 32))) (sym (same_stts t (audio_track n) is)) ((omega arith, omega arith), tt);
    offsets = not_given (λ runs. runs.items) (AllByRecursion (λ run. (run.0 < 2 ^ 32) × FitsSigned w32 run.1)) t.ctts (same_ctts t (audio_track n) is);
    numbers = not_given (λ numbers. numbers.items) (AllByRecursion (λ m. m < 2 ^ 32)) t.stss (same_stss t (audio_track n) is);
  }

  pub audio_keeps : KeepsRules t
  audio_keeps = record {
    fields = audio_fields;
    tables = ap (λ (tables : SampleTables). first_broken_table tables t.timescale) (audio_stated 0) ∙ ap (first_broken_table (audio_tables n 0)) (same_timescale t (audio_track n) is) ∙ audio_is_good n 0;
    short = subst (λ (tables : SampleTables). total_units tables t.timescale ≤ 2 ^ 40) (sym (audio_stated 0))
        (subst (λ (timescale : ℕ). total_units (audio_tables n 0) timescale ≤ 2 ^ 40) (sym (same_timescale t (audio_track n) is)) (audio_is_short n 0));
  }

  pub audio_taken : sample_entry t.kind t.entry.items ≡ Some (record { config = 17 ∷ 144 ∷ []; width = 0; height = 0 })
  audio_taken = ap₂ sample_entry (same_kind_of t (audio_track n) is) (same_entry t (audio_track n) is) ∙ aac_entry_is_taken

  audio_bytes : (i : ℕ) → length (audio_sample n i) ≤ 300
  unfolding audio_sample
  audio_bytes i = omega (arith, length-replicate (1 + i * (n % 127) % 300) (i % 256))

  pub audio_media : length (sample_bytes t) ≤ 300 * 15000
  unfolding sample_bytes audio_samples
  audio_media = bytes_of (λ s. s.items) t.samples.items 300 (audio_sample n) 15000 (same_samples t (audio_track n) is) audio_bytes

  pub audio_small : IsSmall t
  unfolding aac_entry
  audio_small = record {
    entry = omega (arith, ap length (same_entry t (audio_track n) is));
    durations = omega (arith, ap length (same_stts t (audio_track n) is));
    offsets = omega (arith, ap length (none_given offset_table (λ runs. runs.items) t.ctts (same_ctts t (audio_track n) is)));
    numbers = omega (arith, ap length (none_given sync_table (λ numbers. numbers.items) t.stss (same_stss t (audio_track n) is)));
    samples = omega (arith, same_count t (audio_track n) is, length-audio_samples n);
  }
