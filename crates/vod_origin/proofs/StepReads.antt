-- What one step of a body reads.
use Rattle.std.proofs.Common.{◌≡◌, ℕ, List, [], ◌∷◌, ◌++◌, length, take, drop, flat_map, Option, Some, None, IfSome, IsTrue, refl, sym, ap, ◌∙◌, arith, append-nil, ◌-◌}
use Rattle.std.proofs.lemmas.List.{take-append-drop}
use Rattle.std.proofs.lemmas.List.Concat.{flat_map-append}
use Rattle.vod_types.specs.declared.segments.Row.{Row}
use Rattle.vod_types.specs.SegmentRows.{Places, SegmentRows}
use Rattle.vod_source.specs.declared.step.Step.{Step}
use Rattle.vod_source.specs.declared.step.Step.TheVariants.{Again, Whole, BadNal, StoreFailed, SinkFailed}
use Rattle.vod_source.specs.Stored.{Files, Read}
use Rattle.vod_source.specs.Told.{told_with, GrewByPrefix}
use Rattle.vod_source.proofs.ToldLemmas.{GrewByPrefix-front, told_with-nil}
use Rattle.fmp4_writer.specs.declared.writing.Progress.{Progress}
use Rattle.fmp4_writer.specs.declared.writing.Progress.TheVariants.{Front, Samples, Ended}
use Rattle.fmp4_writer.specs.Progress as fragments
use Rattle.fmp4_writer.specs.Progress.{left_after, next_reads, places_left, progress_after}
use Rattle.fmp4_writer.specs.Samples.{row_reads, samples_left}
use Rattle.fmp4_writer.proofs.SamplesLemmas.{length-samples_at, length-samples_moved, samples_left-moved}
use Rattle.fmp4_writer.proofs.StepLemmas as fragment_steps
use Rattle.ts_writer.specs.Conditions as streams
use Rattle.ts_writer.specs.Progress as streams_to_come
use Rattle.ts_writer.proofs.WholeLemmas as stream_steps
use Rattle.vod_plan.specs.Planned.{plan_rows}
use Rattle.vod_origin.specs.declared.cursor.Cursor.TheVariants.{Fragment, Stream}
use Rattle.vod_origin.specs.declared.cursor.FragmentBody.{FragmentBody}
use Rattle.vod_origin.specs.declared.cursor.StreamBody.{StreamBody}
use Rattle.vod_origin.specs.Reads.{LogsStep, reads_left}
use Rattle.vod_origin.proofs.StreamLemmas.{IsStep}
use Rattle.ts_writer.specs.Steps as stream_words

-- ---- a body that is made

-- nothing is left to be read
pub made_reads : (log log_now : Option (List Read)) (step : Step) → log_now ≡ log → LogsStep step [] [] log log_now
made_reads log log_now Again same = ([], refl, same ∙ sym (told_with-nil log))
made_reads log log_now Whole same = same ∙ sym (told_with-nil log)
made_reads log log_now (BadNal file sample) same = same ∙ sym (told_with-nil log)
made_reads log log_now StoreFailed same = record { front = []; back = []; split = refl; grew = same ∙ sym (told_with-nil log) }
made_reads log log_now SinkFailed same = record { front = []; back = []; split = refl; grew = same ∙ sym (told_with-nil log) }

-- ---- a fragment

abbrev left_reads : Progress → SegmentRows → Places → List Read
left_reads = fragment_steps.reads_left

no_reads : (rows : SegmentRows) (samples : List Row) → length samples ≡ 0 → flat_map (row_reads rows) samples ≡ []
no_reads rows [] none = refl
no_reads rows (x ∷ xs) none = absurd (omega (arith, none))

-- those of the step, and those that are left then
reads_next : (progress : Progress) (rows : SegmentRows) (places : Places) (left : ℕ) → IsTrue (fragments.is_under_way progress)
    → left_reads progress rows places ≡ next_reads progress rows places ++ left_reads (Samples left) rows (places_left progress rows places)
reads_next (Front number) rows places left under = refl
reads_next (Samples count) rows places left under =
    ap (flat_map (row_reads rows)) (sym (take-append-drop 1 (samples_left rows places)))
    ∙ flat_map-append (row_reads rows) (take 1 (samples_left rows places)) (drop 1 (samples_left rows places))
    ∙ ap (λ (samples : List Row). flat_map (row_reads rows) (take 1 (samples_left rows places)) ++ flat_map (row_reads rows) samples) (sym (samples_left-moved rows places))
reads_next Ended rows places left under = absurd cc

-- how many samples are left after it
length-left : (progress : Progress) (rows : SegmentRows) (places : Places) → IsTrue (fragments.is_under_way progress) → fragments.AreLeft progress rows places
    → length (samples_left rows (places_left progress rows places)) ≡ left_after progress rows
length-left (Front number) rows places under left = length-samples_at rows rows (places_left (Front number) rows places) refl refl
length-left (Samples count) rows places under left =
    length-samples_moved rows rows places (places_left (Samples count) rows places) refl refl ∙ ap (λ n. n - 1) left
length-left Ended rows places under left = absurd cc

module _ (c d : FragmentBody) (under : IsTrue (fragments.is_under_way c.writing)) (left : fragments.AreLeft c.writing (plan_rows c.plan) c.plan.places) (same : plan_rows d.plan ≡ plan_rows c.plan)
    (places : d.plan.places ≡ places_left c.writing (plan_rows c.plan) c.plan.places) where
  abbrev rows : SegmentRows
  rows = plan_rows c.plan

  abbrev next : List Read
  next = next_reads c.writing rows c.plan.places

  abbrev others : ℕ → List Read
  others n = left_reads (Samples n) rows (places_left c.writing rows c.plan.places)

  part : (log log_now : Option (List Read)) → GrewByPrefix log log_now next → GrewByPrefix log log_now (left_reads c.writing rows c.plan.places)
  part log log_now grew = GrewByPrefix-front next (others 0) (left_reads c.writing rows c.plan.places) (reads_next c.writing rows c.plan.places 0 under) grew

  pub fragment_reads : (files : Files) (log log_now : Option (List Read)) (step : Step) → fragments.IsAnswer step (left_after c.writing rows) → d.writing ≡ progress_after step (left_after c.writing rows)
      → fragments.StepGrows step log log_now next → LogsStep step (reads_left files (Fragment c)) (reads_left files (Fragment d)) log log_now
  fragment_reads files log log_now Again answer progress grew =
      let n = left_after c.writing rows in
      (next, reads_next c.writing rows c.plan.places n under ∙ rw (progress, same, places) refl, grew)
  fragment_reads files log log_now Whole answer progress grew =
      let none = length-left c.writing rows c.plan.places under left ∙ answer in
      let all : left_reads c.writing rows c.plan.places ≡ next =
      reads_next c.writing rows c.plan.places 0 under ∙ ap (λ (xs : List Read). next ++ xs) (no_reads rows (samples_left rows (places_left c.writing rows c.plan.places)) none) ∙ append-nil next in
      grew ∙ ap (told_with log) (sym all)
  fragment_reads files log log_now (BadNal file sample) answer progress grew = absurd answer
  fragment_reads files log log_now StoreFailed answer progress grew = part log log_now grew
  fragment_reads files log log_now SinkFailed answer progress grew = part log log_now grew

-- ---- a transport stream

module _ (c d : StreamBody) (under : IsTrue (streams.is_under_way c.writing.progress)) (rows_same : plan_rows d.plan ≡ plan_rows c.plan) where
  abbrev stream_rows : SegmentRows
  stream_rows = plan_rows c.plan

  abbrev all : Files → List Read
  all files = streams_to_come.reads_left files c.writing stream_rows c.plan.places

  pub stream_reads : (files : Files) (before now : Option (List ℕ)) (log log_now : Option (List Read)) (step : Step) → IsStep (Some files) c d before now step
      → stream_words.StepGrows step log log_now (stream_words.next_reads c.writing stream_rows c.plan.places)
      → LogsStep step (reads_left files (Stream c)) (reads_left files (Stream d)) log log_now
  stream_reads files before now log log_now Again is grew =
      let way = stream_steps.read_again stream_rows c.writing c.plan.places under (Some files) d.writing d.plan.places log log log_now all is.same is.samples is.judged (stream_steps.nothing_yet log (all files)) grew in
      (way.done, rw rows_same way.all_is, way.grew)
  stream_reads files before now log log_now Whole is grew =
      stream_steps.read_whole stream_rows c.writing c.plan.places under (Some files) log log log_now all is.samples is.judged (stream_steps.nothing_yet log (all files)) grew
  stream_reads files before now log log_now (BadNal file sample) is grew =
      stream_steps.read_bad stream_rows c.writing c.plan.places under file sample is.bad (Some files) log log log_now all is.judged (stream_steps.nothing_yet log (all files)) grew
  stream_reads files before now log log_now StoreFailed is grew =
      stream_steps.read_failed stream_rows c.writing c.plan.places under (Some files) log log log_now all (stream_steps.nothing_yet log (all files)) grew
  stream_reads files before now log log_now SinkFailed is grew =
      stream_steps.read_failed stream_rows c.writing c.plan.places under (Some files) log log log_now all (stream_steps.nothing_yet log (all files)) grew

  pub stream_reads_in : (content : Option Files) (before now : Option (List ℕ)) (log log_now : Option (List Read)) (step : Step) → IsStep content c d before now step
      → stream_words.StepGrows step log log_now (stream_words.next_reads c.writing stream_rows c.plan.places)
      → IfSome content (λ files. LogsStep step (reads_left files (Stream c)) (reads_left files (Stream d)) log log_now)
  stream_reads_in None before now log log_now step is grew = tt
  stream_reads_in (Some files) before now log log_now step is grew = stream_reads files before now log log_now step is grew
