-- How far the writing of a media segment has come, and what one step of it does (this project's own).
use Rattle.std.specs.Prelude.{◌≡◌, ℕ, zero, suc, ◌+◌, ◌-◌, ◌<◌, List, [], length, take, flat_map, Bool, true, false, Option, Some, option_map, Result, Ok, Err}
use Rattle.vod_types.specs.declared.segments.Row.{Row}
use Rattle.vod_types.specs.SegmentRows.{SegmentRows, Places, at_front, moved, sample_bytes}
use Rattle.vod_source.specs.declared.step.Step.{Step}
use Rattle.vod_source.specs.declared.step.Step.TheVariants.{Again, Whole, BadNal, StoreFailed, SinkFailed}
use Rattle.vod_source.specs.declared.ranges.CopyFault.{CopyFault}
use Rattle.vod_source.specs.declared.ranges.CopyFault.TheVariants.{Store, Sink}
use Rattle.vod_source.specs.Stored.{Files, Read, bytes_of}
use Rattle.vod_source.specs.Told.{told_with, GrewByPrefix}
use Rattle.media_model.specs.Fragment.{fragment_front, fragment}
use Rattle.media_model.specs.Laws.{AreFragmentTracks}
use Rattle.fmp4_writer.specs.declared.writing.Progress.{Progress}
use Rattle.fmp4_writer.specs.declared.writing.Progress.TheVariants.{Front, Samples, Ended}
use Rattle.fmp4_writer.specs.Samples.{samples_left, next_kind, AreReadable, row_reads}

-- ---- the condition of a step

abbrev pub is_under_way : Progress → Bool
is_under_way (Front number) = true
is_under_way (Samples left) = true
is_under_way Ended = false

-- samples that are to come are at least one
abbrev pub HasMore : Progress → Type 0
HasMore (Front number) = Unit {0}
HasMore (Samples left) = 0 < left
HasMore Ended = Unit {0}

-- the rows' places are those at which the steps so far have left them
abbrev pub AreLeft : Progress → SegmentRows → Places → Type 0
AreLeft (Front number) rows places = Unit {0}
AreLeft (Samples left) rows places = length (samples_left rows places) ≡ left
AreLeft Ended rows places = Unit {0}

-- rows that a fragment takes: few enough, with times, offsets and sizes that its fields hold, and with samples that can be read
pub record AreWritable (content : Option Files) (rows : SegmentRows) : Type 0 where
  pub tracks : AreFragmentTracks rows.video rows.audio
  pub samples : AreReadable content rows

-- ---- what a step writes and reads

-- the bytes, where they are known: those of samples out of the content, where that is told
abbrev pub next_bytes : Option Files → Progress → SegmentRows → Places → Option (List ℕ)
next_bytes content (Front number) rows places = Some (fragment_front number rows.video rows.audio)
next_bytes content (Samples left) rows places = option_map (λ files. flat_map (sample_bytes (bytes_of files) rows) (take 1 (samples_left rows places))) content
next_bytes content Ended rows places = Some []

abbrev pub next_reads : Progress → SegmentRows → Places → List Read
next_reads (Front number) rows places = []
next_reads (Samples left) rows places = flat_map (row_reads rows) (take 1 (samples_left rows places))
next_reads Ended rows places = []

-- it grew by all of these, or by a prefix of them in a step that failed
abbrev pub StepGrows : {A : Type 0} → Step → Option (List A) → Option (List A) → List A → Type 0
StepGrows Again before now all = now ≡ told_with before all
StepGrows Whole before now all = now ≡ told_with before all
StepGrows (BadNal file sample) before now all = GrewByPrefix before now all
StepGrows StoreFailed before now all = GrewByPrefix before now all
StepGrows SinkFailed before now all = GrewByPrefix before now all

-- ---- what a step leaves

-- the number of samples that are to come after it
abbrev pub left_after : Progress → SegmentRows → ℕ
left_after (Front number) rows = length rows.video + length rows.audio
left_after (Samples left) rows = left - 1
left_after Ended rows = 0

-- the rows' places
abbrev pub places_left : Progress → SegmentRows → Places → Places
places_left (Front number) rows places = at_front
places_left (Samples left) rows places = moved (next_kind rows places) places
places_left Ended rows places = places

-- the answer, by what writing came to: Whole exactly where no sample is to come
abbrev pub step_of : Result (Unit {0}) CopyFault → ℕ → Step
step_of (Ok x) zero = Whole
step_of (Ok x) (suc left) = Again
step_of (Err Store) left = StoreFailed
step_of (Err Sink) left = SinkFailed

-- one of these answers
abbrev pub IsAnswer : Step → ℕ → Type 0
IsAnswer Again left = 0 < left
IsAnswer Whole left = left ≡ 0
IsAnswer (BadNal file sample) left = ⊥
IsAnswer StoreFailed left = Unit {0}
IsAnswer SinkFailed left = Unit {0}

-- under way after Again alone
abbrev pub progress_after : Step → ℕ → Progress
progress_after Again left = Samples left
progress_after Whole left = Ended
progress_after (BadNal file sample) left = Ended
progress_after StoreFailed left = Ended
progress_after SinkFailed left = Ended

-- ---- over all steps

-- what is still to be written, of samples with these bytes
abbrev pub rest_of : (Row → List ℕ) → Progress → SegmentRows → Places → List ℕ
rest_of bytes (Front number) rows places = fragment number bytes rows.video rows.audio
rest_of bytes (Samples left) rows places = flat_map bytes (samples_left rows places)
rest_of bytes Ended rows places = []
