-- What a clip, or a part of it, is answered with; this project's own.
use Rattle.std.specs.Prelude.{◌≡◌, ◌⊎◌, ℕ, ◌+◌, List, [], ◌++◌, length, flat_map, slice_range, Option, None, Some, Result, Ok}
use Rattle.std.specs.Result.{result_unwrap_or}
use Rattle.vod_types.specs.declared.paths.ByteRange.{ByteRange}
use Rattle.vod_types.specs.declared.refusal.Refusal.{Refusal}
use Rattle.vod_types.specs.declared.refusal.Refusal.TheVariants.{BadRange}
use Rattle.vod_types.specs.declared.tracks.Asked.{Asked}
use Rattle.vod_types.specs.Results.{◌>>=◌, ◌>>◌, unless}
use Rattle.clip_model.specs.Timeline.{Timeline}
use Rattle.media_model.specs.Clip.{clip, clip_size, placed_rows}
use Rattle.vod_source.specs.Stored.{Files, Read}
use Rattle.origin_model.specs.Clips.{PlannedClip, asked_part, checked_part, clip_bytes, part_reads, planned_clip}
use Rattle.origin_model.specs.Plans.{Cutting}
use Rattle.origin_model.specs.Reads.{turns}
use Rattle.answer_laws.specs.Refusals.{IsPathRefusal}
use Rattle.flat_clip.specs.declared.part.ClipPart.{ClipPart}
use Rattle.flat_clip.specs.Parts.{bytes_in, first_fault, row_reads}
use Rattle.flat_clip.specs.Rows.{ClipFacts, clip_looks}

-- a part of a clip: its bytes, the places of the first and of the last that were asked for, and the length of the whole
pub record PartFacts : Type 0 where
  pub bytes : List ℕ
  pub first : ℕ
  pub last : ℕ
  pub length : ℕ

abbrev pub part_view : ClipPart → PartFacts
part_view p = record { bytes = p.bytes.items; first = p.first; last = p.last; length = p.length }

-- a range is asked for
abbrev pub BadRangeOf : Option ByteRange → Type 0
BadRangeOf None = ⊥
BadRangeOf (Some range) = Unit {0}

-- why a part of a clip may be refused: as a path may be, and for its range
abbrev pub IsClipRefusal : Option ByteRange → Refusal → Type 0
IsClipRefusal range why = IsPathRefusal why ⊎ ((n : ℕ) × (why ≡ BadRange n) × BadRangeOf range)

-- ---- what is due of a planned clip

-- the bytes of a part, and all where no range is asked for
abbrev pub taken_bytes : Option ByteRange → ℕ × ℕ → List ℕ → List ℕ
taken_bytes None part bytes = bytes
taken_bytes (Some range) part bytes = slice_range bytes part.0 (part.1 + 1)

abbrev pub planned_part : Files → Option ByteRange → PlannedClip → ℕ × ℕ → PartFacts
planned_part files range p part = record { bytes = taken_bytes range part (clip_bytes p files); first = part.0; last = part.1; length = length (clip_bytes p files) }

-- the part that is asked for of the clip of a sequence, or the first refusal
unfoldable pub due_part : Cutting → Asked → Timeline → ℕ → Option ByteRange → Result PartFacts Refusal
due_part c asked t sequence range = do
  clip ← planned_clip c asked t sequence
  part ← checked_part clip range
  Ok (planned_part c.files range clip part)

-- the reads of the samples for it
abbrev pub sample_reads_of : Cutting → Asked → Timeline → ℕ → Option ByteRange → List Read
sample_reads_of c asked t sequence range =
    result_unwrap_or (planned_clip c asked t sequence >>= λ clip. checked_part clip range >>= λ part. Ok (part_reads clip part)) []

-- and those of the movie of its file before them
unfoldable pub part_reads_of : Cutting → Asked → Timeline → ℕ → Option ByteRange → List Read
part_reads_of c asked t sequence range = (turns c.files [] (clip_looks sequence t)).reads ++ sample_reads_of c asked t sequence range

-- ---- the same by what is kept of it

unfoldable pub facts_part : Option ByteRange → ClipFacts → Result (ℕ × ℕ) Refusal
facts_part range f = do
  part ← asked_part range (clip_size f.video f.audio)
  unless (first_fault f.name part f.size (placed_rows f.video f.audio))
  Ok part

unfoldable pub held_part : Files → Option ByteRange → ClipFacts → Result PartFacts Refusal
held_part files range f =
    facts_part range f
    >>= λ part. Ok (record { bytes = slice_range (clip f.video f.audio (bytes_in files f.name)) part.0 (part.1 + 1); first = part.0; last = part.1; length = clip_size f.video f.audio })

unfoldable pub held_reads : Option ByteRange → ClipFacts → List Read
held_reads range f = result_unwrap_or (facts_part range f >>= λ part. Ok (flat_map (row_reads f.name part) (placed_rows f.video f.audio))) []
