-- The tables of a number's tracks break no rule.
use Rattle.std.proofs.Common.{◌≡◌, ℕ, zero, suc, ◌+◌, ◌-◌, ◌*◌, ◌/◌, ◌%◌, ◌^◌, ◌<◌, ◌≤◌, true, List, [], ◌∷◌, length, map, Some, None, pos, refl, ◌∙◌, arith}
use Rattle.std.specs.Prelude.{min, sum_by, nat_lt}
use Rattle.std.specs.List.{range_with_len, AllByRecursion, list_all}
use Rattle.std.proofs.lemmas.Bool.{lt-ltb, eq-eqb}
use Rattle.std.proofs.lemmas.List.Sums.{sum_by-cons}
use Rattle.std.proofs.lemmas.List.FromFn.{length-map-range_with_len}
use Rattle.std.proofs.lemmas.List.{length-map}
use Rattle.mp4_model.specs.Tables.{SampleTables}
use Rattle.mp4_model.specs.Validity.{stts_is_good, ctts_is_good, stss_is_good, stsc_is_good, first_broken_table}
use Rattle.mp4_model.specs.GoodTracks.{total_units}
use Rattle.mp4_model.proofs.RunsLemmas.{sum-written_out}
use Rattle.vod_gen.specs.Numbered.{audio_sample, audio_samples, is_sync, sync_numbers, video_count, video_run, video_runs, video_sample, video_samples}
use Rattle.rehearsal_laws.proofs.Ranges.{each_made, all_made, sum_twice, numbers_up_to, numbers_rise}

-- ---- the video

pub video_many : (n : ℕ) → (5000 ≤ video_count n) × (video_count n ≤ 9750)
video_many n = (omega arith, omega arith)

runs_count : (count : ℕ) (d : ℕ → ℕ) (s k : ℕ) → sum_by (λ (r : ℕ × ℕ). r.0) (map (λ j. (min (count - 500 * j) 500, d j)) (range_with_len s k)) ≡ min (count - 500 * s) (500 * k)
runs_count count d s zero = omega arith
runs_count count d s (suc k) =
    let rest : List (ℕ × ℕ) = map (λ j. (min (count - 500 * j) 500, d j)) (range_with_len (s + 1) k) in
    omega (arith, sum_by-cons (λ (r : ℕ × ℕ). r.0) (min (count - 500 * s) 500, d s) rest, runs_count count d (s + 1) k)

pub video_counted : (n : ℕ) → sum_by (λ (r : ℕ × ℕ). r.0) (video_runs n) ≡ video_count n
unfolding video_runs video_run
video_counted n = runs_count (video_count n) (λ j. 1 + n / 20 * j % 2) 0 ((video_count n + 499) / 500) ∙ omega arith

pub few_runs : (n : ℕ) → length (video_runs n) ≤ 20
unfolding video_runs
few_runs n = omega (arith, length-map-range_with_len (video_run n) 0 ((video_count n + 499) / 500))

some_in_run : (n i : ℕ) → i < (video_count n + 499) / 500 → nat_lt 0 (video_run n i).0 ≡ true
unfolding video_run
some_in_run n i h = lt-ltb _ _ (omega arith)

pub runs_fit : (n : ℕ) → AllByRecursion (λ (run : ℕ × ℕ). (run.0 < 2 ^ 32) × (run.1 < 2 ^ 32)) (video_runs n)
unfolding video_runs video_run
runs_fit n = each_made (λ (run : ℕ × ℕ). (run.0 < 2 ^ 32) × (run.1 < 2 ^ 32)) (video_run n) 0 ((video_count n + 499) / 500) (λ i h. (omega arith, omega arith))

short_runs : (n : ℕ) → AllByRecursion (λ (run : ℕ × ℕ). run.0 * run.1 ≤ 2 * run.0) (video_runs n)
unfolding video_runs video_run
short_runs n = each_made (λ (run : ℕ × ℕ). run.0 * run.1 ≤ 2 * run.0) (video_run n) 0 ((video_count n + 499) / 500) (λ i h. two_at_most _ _)
  where
    two_at_most : (m q : ℕ) → m * (1 + q % 2) ≤ 2 * m
    two_at_most m q = grind arith

abbrev pub video_tables : ℕ → ℕ → SampleTables
video_tables n place = record {
  stts = Some (video_runs n);
  ctts = Some ((video_count n, pos 2) ∷ []);
  stss = Some (sync_numbers n);
  stsc = Some ((1, video_count n, 1) ∷ []);
  stsz = Some (record { common = 0; sizes = map (λ s. length s) (video_samples n) });
  chunks = Some (place ∷ []);
}

pub length-video_samples : (n : ℕ) → length (video_samples n) ≡ video_count n
unfolding video_samples
length-video_samples n = length-map-range_with_len (video_sample n) 0 (video_count n)

runs_are_good : (n : ℕ) → stts_is_good (Some (video_count n)) (video_runs n) ≡ true
unfolding stts_is_good video_runs
runs_are_good n =
    let some : list_all (λ (r : ℕ × ℕ). nat_lt 0 r.0) (video_runs n) ≡ true =
    all_made (λ (r : ℕ × ℕ). nat_lt 0 r.0) (video_run n) 0 ((video_count n + 499) / 500) (λ i h. some_in_run n i (omega (arith, h))) in
    rw (some, video_counted n, eq-eqb (video_count n) (video_count n) refl) refl

offsets_are_good : (n : ℕ) → ctts_is_good (Some (video_count n)) 25 ((video_count n, pos 2) ∷ []) ≡ true
unfolding ctts_is_good
offsets_are_good n =
    let some : nat_lt 0 (video_count n) ≡ true = lt-ltb _ _ (omega (arith, (video_many n).0)) in
    rw (some, eq-eqb (0 + video_count n) (video_count n) (omega arith)) refl

syncs_are_good : (n : ℕ) → stss_is_good (Some (video_count n)) (sync_numbers n) ≡ true
unfolding stss_is_good sync_numbers
syncs_are_good n = rw (numbers_rise (is_sync n) 0 0 (video_count n) (omega arith), numbers_up_to (is_sync n) 0 (video_count n) (video_count n) (omega arith)) refl

chunk_is_good : (n : ℕ) → stsc_is_good (Some (video_count n)) (Some 1) ((1, video_count n, 1) ∷ []) ≡ true
unfolding stsc_is_good
chunk_is_good n =
    let some : nat_lt 0 (video_count n) ≡ true = lt-ltb _ _ (omega (arith, (video_many n).0)) in
    rw (some, eq-eqb (0 + 1 * video_count n) (video_count n) (omega arith)) refl

pub video_is_good : (n place : ℕ) → first_broken_table (video_tables n place) 25 ≡ None
unfolding first_broken_table
video_is_good n place =
    let count : length (map (λ s. length s) (video_samples n)) ≡ video_count n = length-map (video_samples n) (λ s. length s) ∙ length-video_samples n in
    rw (count, runs_are_good n, offsets_are_good n, syncs_are_good n, chunk_is_good n) refl

pub video_is_short : (n place : ℕ) → total_units (video_tables n place) 25 ≤ 2 ^ 40
video_is_short n place =
    omega (arith, sum-written_out (video_runs n), sum_twice (λ (r : ℕ × ℕ). r.0 * r.1) (λ (r : ℕ × ℕ). r.0) (video_runs n) (short_runs n), video_counted n, (video_many n).1)

-- ---- the audio

abbrev pub audio_tables : ℕ → ℕ → SampleTables
audio_tables n place = record {
  stts = Some ((15000, 1024) ∷ []);
  ctts = None;
  stss = None;
  stsc = Some ((1, 15000, 1) ∷ []);
  stsz = Some (record { common = 0; sizes = map (λ s. length s) (audio_samples n) });
  chunks = Some (place ∷ []);
}

pub length-audio_samples : (n : ℕ) → length (audio_samples n) ≡ 15000
unfolding audio_samples
length-audio_samples n = length-map-range_with_len (audio_sample n) 0 15000

pub audio_is_good : (n place : ℕ) → first_broken_table (audio_tables n place) 48000 ≡ None
unfolding first_broken_table stts_is_good stsc_is_good
audio_is_good n place =
    let count : length (map (λ s. length s) (audio_samples n)) ≡ 15000 = length-map (audio_samples n) (λ s. length s) ∙ length-audio_samples n in
    rw count refl

pub audio_is_short : (n place : ℕ) → total_units (audio_tables n place) 48000 ≤ 2 ^ 40
audio_is_short n place = omega (arith, sum-written_out ((15000, 1024) ∷ []))
