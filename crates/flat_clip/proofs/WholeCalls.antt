-- The part of the clip of a sequence, by what is kept of the clip.
use Rattle.std.proofs.Common.{◌≡◌, ℕ, ◌+◌, Bool, true, false, cond, List, [], ◌∷◌, ◌++◌, flat_map, filter, All, Option, Some, None, Result, Ok, Err, refl, sym, ap, ap₂, ◌∙◌, subst, ◌-◌, length, slice_range, take_all, arith}
use Rattle.std.specs.Prelude.{filter_map, nat_lt, slice_get}
use Rattle.std.specs.Bool.{then_some}
use Rattle.std.specs.List.{AllByRecursion, cons_option}
use Rattle.std.specs.Option.{option_or}
use Rattle.std.specs.Result.{result_unwrap_or}
use Rattle.std.proofs.lemmas.List.Elements.{All-head, All-tail}
use Rattle.vod_types.specs.declared.paths.ByteRange.{ByteRange}
use Rattle.vod_types.specs.declared.refusal.Refusal.{Refusal}
use Rattle.vod_types.specs.declared.refusal.Refusal.TheVariants.{OutOfFile, SampleTooLong}
use Rattle.vod_types.specs.declared.segments.Form.TheVariants.{Fmp4}
use Rattle.vod_types.specs.declared.segments.Row.{Row}
use Rattle.vod_types.specs.declared.tracks.Asked.{Asked}
use Rattle.vod_types.specs.Results.{◌>>=◌, ◌>>◌, unless}
use Rattle.clip_model.specs.Timeline.{Timeline}
use Rattle.media_model.specs.Clip.{PlacedRow, meets, ordered_rows, placed_from, placed_rows, media_start}
use Rattle.media_model.specs.WritingOrder.{TrackRow}
use Rattle.media_model.proofs.ClipSizes.{length-clip}
use Rattle.media_model.proofs.Stream.{writing_order-all}
use Rattle.vod_source.specs.Calls.{AnswersUnlessFailed, Came, LogsReads}
use Rattle.vod_source.specs.Stored.{Files, Read}
use Rattle.vod_source.proofs.CallLemmas.{logs_ended, logs_then}
use Rattle.origin_model.specs.Clips.{PlannedClip, asked_part, checked_part, clip_audio, clip_bytes, clip_length, clip_video, met_reads, part_fault, part_reads, planned_clip}
use Rattle.origin_model.specs.Loaded.{CheckedPiece}
use Rattle.origin_model.specs.Plans.{Cutting}
use Rattle.origin_model.specs.Samples.{sample_fault}
use Rattle.flat_clip.specs.declared.part.ClipPart.{ClipPart}
use Rattle.flat_clip.specs.declared.rows.ClipRows.{ClipRows}
use Rattle.flat_clip.specs.Answers.{PartFacts, due_part, facts_part, held_part, held_reads, part_view, planned_part, sample_reads_of}
use Rattle.flat_clip.specs.Parts.{bytes_in, first_fault, met_fault, row_fault, row_reads}
use Rattle.flat_clip.specs.Rows.{ClipFacts, IsSmallClip, as_facts, facts_of, planned_facts}
use Rattle.flat_clip.specs.Tracks.{IsClipRow}
use Rattle.flat_clip.proofs.PartCalls.{references}
use Rattle.flat_clip.proofs.Slices.{sizes-are}

-- ---- rows of the first file

abbrev IsFirst : PlacedRow → Type 0
IsFirst r = r.row.row.file ≡ 0

each-first : (rows : List Row) → All IsClipRow rows → AllByRecursion (λ row. row.file ≡ 0) rows
each-first [] h = tt
each-first (row ∷ rows) h = ((All-head IsClipRow row rows h).first, each-first rows (All-tail IsClipRow row rows h))

placed-first : (place : ℕ) (rows : List TrackRow) → AllByRecursion (λ r. r.row.file ≡ 0) rows → AllByRecursion IsFirst (placed_from place rows)
placed-first place [] h = tt
placed-first place (r ∷ rows) h = (h.0, placed-first (place + r.row.sample.size) rows h.1)

all-first : (f : ClipFacts) → IsSmallClip f → AllByRecursion IsFirst (placed_rows f.video f.audio)
all-first f s =
    placed-first (media_start f.video f.audio) (ordered_rows f.video f.audio)
    (writing_order-all (λ r. r.row.file ≡ 0) f.video.rows f.audio.rows (each-first f.video.rows s.video.rows) (each-first f.audio.rows s.audio.rows))

-- ---- faults and reads

or-none : (o : Option Refusal) → option_or o None ≡ o
or-none None = refl
or-none (Some e) = refl

module _ (c : CheckedPiece) (part : ℕ × ℕ) where
  row-same : (r : PlacedRow) → IsFirst r → row_fault c.piece.name c.file_size r ≡ sample_fault Fmp4 (c ∷ []) r.row
  unfolding row_fault sample_fault
  row-same r first =
      rw first
      (ap (option_or (then_some (nat_lt 16777216 r.row.row.sample.size) (SampleTooLong c.piece.name r.row.row.number r.row.row.sample.size)))
      (sym (or-none (then_some (nat_lt c.file_size (r.row.row.sample.at + r.row.row.sample.size)) (OutOfFile c.piece.name r.row.row.number)))))

  faults-same : (rows : List PlacedRow) → AllByRecursion IsFirst rows
      → filter_map (met_fault c.piece.name part c.file_size) rows ≡ filter_map (λ r. sample_fault Fmp4 (c ∷ []) r.row) (filter (meets part) rows)
  faults-same [] h = refl
  faults-same (r ∷ rows) h = step (meets part r) (faults-same rows h.1)
    where
      step : (b : Bool) → filter_map (met_fault c.piece.name part c.file_size) rows ≡ filter_map (λ r. sample_fault Fmp4 (c ∷ []) r.row) (filter (meets part) rows)
          → cons_option (cond b (row_fault c.piece.name c.file_size r) None) (filter_map (met_fault c.piece.name part c.file_size) rows)
          ≡ filter_map (λ r. sample_fault Fmp4 (c ∷ []) r.row) (cond b (r ∷ filter (meets part) rows) (filter (meets part) rows))
      step true rest = ap₂ cons_option (row-same r h.0) rest
      step false rest = rest

reads-same : (p : PlannedClip) (part : ℕ × ℕ) (rows : List PlacedRow) → flat_map (row_reads p.piece.piece.name part) rows ≡ flat_map (met_reads p part) (filter (meets part) rows)
reads-same p part [] = refl
reads-same p part (r ∷ rows) = step (meets part r) (reads-same p part rows)
  where
    step : (b : Bool) → flat_map (row_reads p.piece.piece.name part) rows ≡ flat_map (met_reads p part) (filter (meets part) rows)
        → cond b (met_reads p part r) [] ++ flat_map (row_reads p.piece.piece.name part) rows ≡ flat_map (met_reads p part) (cond b (r ∷ filter (meets part) rows) (filter (meets part) rows))
    step true rest = ap (λ (l : List Read). met_reads p part r ++ l) rest
    step false rest = rest

-- ---- a planned clip

module _ (p : PlannedClip) (small : IsSmallClip (planned_facts p)) (range : Option ByteRange) where
  part-same : facts_part range (planned_facts p) ≡ checked_part p range
  unfolding facts_part checked_part
  part-same = by (asked_part range (clip_length p))
    where
      by : (r : Result (ℕ × ℕ) Refusal)
          → (r >>= λ part. unless (first_fault p.piece.piece.name part p.piece.file_size (placed_rows (clip_video p) (clip_audio p))) >> Ok part)
          ≡ (r >>= λ part. unless (part_fault p part) >> Ok part)
      by (Ok part) =
          ap (λ (faults : List Refusal). unless (slice_get faults 0) >> Ok part) (faults-same p.piece part (placed_rows (clip_video p) (clip_audio p)) (all-first (planned_facts p) small))
      by (Err e) = refl

  abbrev raw_part : Files → ℕ → ℕ × ℕ → PartFacts
  raw_part files n part = record { bytes = slice_range (clip_bytes p files) part.0 (part.1 + 1); first = part.0; last = part.1; length = n }

  length-bytes : (files : Files) → length (clip_bytes p files) ≡ clip_length p
  unfolding clip_bytes
  length-bytes files =
      length-clip (bytes_in files p.piece.piece.name) (clip_video p) (clip_audio p) (references (planned_facts p) small)
      (sizes-are 0 0 files p.piece.piece.name (clip_video p).rows) (sizes-are 0 0 files p.piece.piece.name (clip_audio p).rows)

  raw-same : (files : Files) (asked : Option ByteRange) → (checked_part p asked >>= λ part. Ok (raw_part files (clip_length p) part)) ≡ (checked_part p asked >>= λ part. Ok (planned_part files asked p part))
  unfolding checked_part
  raw-same files (Some asked) =
      ap (λ (n : ℕ). checked_part p (Some asked) >>= λ part. Ok (raw_part files n part)) (sym (length-bytes files))
  raw-same files None = step (unless (part_fault p (0, clip_length p - 1)))
    where
      whole : raw_part files (clip_length p) (0, clip_length p - 1) ≡ planned_part files None p (0, clip_length p - 1)
      whole =
          ap₂ (λ (bytes : List ℕ) (n : ℕ). record { bytes = bytes; first = 0; last = clip_length p - 1; length = n })
          (take_all (clip_length p - 1 + 1 - 0) (clip_bytes p files) (omega (arith, length-bytes files))) (sym (length-bytes files))

      step : (r : Result (Unit {0}) Refusal) → ((r >> Ok (0, clip_length p - 1)) >>= λ part. Ok (raw_part files (clip_length p) part)) ≡ ((r >> Ok (0, clip_length p - 1)) >>= λ part. Ok (planned_part files None p part))
      step (Ok x) = ap Ok whole
      step (Err e) = refl

  held-same : (files : Files) → held_part files range (planned_facts p) ≡ (checked_part p range >>= λ part. Ok (planned_part files range p part))
  unfolding held_part clip_bytes
  held-same files = ap (λ (r : Result (ℕ × ℕ) Refusal). r >>= λ part. Ok (raw_part files (clip_length p) part)) part-same ∙ raw-same files range

  held_reads-same : held_reads range (planned_facts p) ≡ result_unwrap_or (checked_part p range >>= λ part. Ok (part_reads p part)) []
  unfolding held_reads part_reads
  held_reads-same = by (facts_part range (planned_facts p)) ∙ ap (λ (r : Result (ℕ × ℕ) Refusal). result_unwrap_or (r >>= λ part. Ok (part_reads p part)) []) part-same
    where
      by : (r : Result (ℕ × ℕ) Refusal)
          → result_unwrap_or (r >>= λ part. Ok (flat_map (row_reads p.piece.piece.name part) (placed_rows (clip_video p) (clip_audio p)))) []
          ≡ result_unwrap_or (r >>= λ part. Ok (part_reads p part)) []
      by (Ok part) = reads-same p part (placed_rows (clip_video p) (clip_audio p))
      by (Err e) = refl

-- ---- the call

pub facts-err : (r : Result PlannedClip Refusal) (e : Refusal) → as_facts r ≡ Err e → r ≡ Err e
facts-err (Ok p) e h = absurd cc
facts-err (Err d) e h = let same : d ≡ e = cc in ap Err same

pub facts-ok : (r : Result PlannedClip Refusal) (f : ClipFacts) → as_facts r ≡ Ok f → (p : PlannedClip) × (r ≡ Ok p) × (planned_facts p ≡ f)
facts-ok (Ok p) f h = let same : planned_facts p ≡ f = cc in (p, refl, same)
facts-ok (Err d) f h = absurd cc

module _ (c : Cutting) (asked : Asked) (t : Timeline) (sequence : ℕ) (range : Option ByteRange) (movie_reads : List Read) where
  abbrev planned : Result PlannedClip Refusal
  planned = planned_clip c asked t sequence

  abbrev samples_by : Result PlannedClip Refusal → List Read
  samples_by r = result_unwrap_or (r >>= λ clip. checked_part clip range >>= λ part. Ok (part_reads clip part)) []

  abbrev due_by : Result PlannedClip Refusal → Result PartFacts Refusal
  due_by r = r >>= λ clip. checked_part clip range >>= λ part. Ok (planned_part c.files range clip part)

  due-is : due_part c asked t sequence range ≡ due_by planned
  unfolding due_part
  due-is = refl

  -- there is no clip
  pub whole-refused : (e : Refusal) (log log_now : Option (List Read)) → Came {X = ClipRows} facts_of (Err e) (as_facts planned) movie_reads log log_now
      → Came {X = ClipPart} part_view (Err e) (due_part c asked t sequence range) (movie_reads ++ sample_reads_of c asked t sequence range) log log_now
  whole-refused e log log_now came = record {
    answered = λ known_memory known_store. due-is ∙ ap due_by (facts-err planned e (came.answered known_memory known_store));
    logged = logs_ended e movie_reads (samples_by planned) log log_now came.logged
        (λ known_memory known_store. ap samples_by (facts-err planned e (came.answered known_memory known_store)));
  }

  -- a part of the clip was read, or refused
  pub whole-found : (rows : ClipRows) (r : Result ClipPart Refusal) (log middle log_now : Option (List Read)) → Came facts_of (Ok rows) (as_facts planned) movie_reads log middle
      → IsSmallClip (facts_of rows) → Came part_view r (held_part c.files range (facts_of rows)) (held_reads range (facts_of rows)) middle log_now
      → Came part_view r (due_part c asked t sequence range) (movie_reads ++ sample_reads_of c asked t sequence range) log log_now
  whole-found rows r log middle log_now came small later =
      let found = facts-ok planned (facts_of rows) came.answered in
      let p : PlannedClip = found.0 in
      let small_planned : IsSmallClip (planned_facts p) = subst IsSmallClip (sym found.2) small in
      let due : held_part c.files range (facts_of rows) ≡ due_part c asked t sequence range =
      ap (held_part c.files range) (sym found.2) ∙ held-same p small_planned range c.files ∙ sym (ap due_by found.1) ∙ sym due-is in
      let reads : held_reads range (facts_of rows) ≡ samples_by planned =
      ap (held_reads range) (sym found.2) ∙ held_reads-same p small_planned range ∙ sym (ap samples_by found.1) in
      record {
        answered = subst (AnswersUnlessFailed part_view r) due later.answered;
        logged = logs_then r movie_reads (samples_by planned) log middle log_now came.logged (subst (λ (reads : List Read). LogsReads r reads middle log_now) reads later.logged);
      }
