-- A transport stream that is under way: one step of it.
use Rattle.std.proofs.Common.{◌≡◌, ℕ, ◌<◌, Bool, true, false, List, Option, Some, None, IfSome, IsTrue, option_map, refl, sym, ap, ◌∙◌, subst}
use Rattle.std.specs.Prelude.{◌↔◌}
use Rattle.vod_types.specs.SegmentRows.{SegmentRows}
use Rattle.media_model.specs.WritingOrder.{TrackRow}
use Rattle.list_model.specs.Reply.{whole, bad_nal}
use Rattle.vod_source.specs.declared.step.Step.{Step}
use Rattle.vod_source.specs.declared.step.Step.TheVariants.{Again, Whole, BadNal, StoreFailed, SinkFailed}
use Rattle.vod_source.specs.Stored.{Files}
use Rattle.vod_http.specs.Answered.{Advances, KeepsPackets}
use Rattle.ts_writer.specs.Conditions.{AreLeft, AreWritable, HasBegun, is_under_way}
use Rattle.ts_writer.specs.Packets.{StepPackets}
use Rattle.ts_writer.specs.Progress.{first_bad, is_good_row, rest_of, samples_to_come}
use Rattle.ts_writer.specs.Steps.{IsBadOf, IsJudged, StepGrows, StepLeaves, is_again, next_bytes, samples_due, stream_after, written_on}
use Rattle.ts_writer.proofs.WholeLemmas.{cut_at, cut_whole, first_again, has_more, nothing_yet, starts, steps_left, steps_left-falls, still_writable, written_again, written_bad, written_failed, written_whole}
use Rattle.vod_plan.specs.Planned.{plan_rows}
use Rattle.vod_origin.specs.declared.cursor.Cursor.TheVariants.{Stream}
use Rattle.vod_origin.specs.declared.cursor.StreamBody.{StreamBody}
use Rattle.vod_origin.specs.Bodies.{IsStreamOf, end_before, rest_in}
use Rattle.vod_origin.specs.Steps.{Steps}

-- ---- ends

end_whole : (bad : Option TrackRow) → ◌≡◌ {A = Option (ℕ × ℕ)} None (option_map (λ r. (r.row.file, r.row.number)) bad) → end_before bad ≡ whole
end_whole None is = refl
end_whole (Some r) is = absurd cc

end_cut : (bad : Option TrackRow) (file sample : ℕ) → ◌≡◌ {A = Option (ℕ × ℕ)} (Some (file, sample)) (option_map (λ r. (r.row.file, r.row.number)) bad) → end_before bad ≡ bad_nal file sample
end_cut None file sample is = absurd cc
end_cut (Some r) file sample is = let numbers : (file, sample) ≡ (r.row.file, r.row.number) = cc in sym (ap (λ (p : ℕ × ℕ). bad_nal p.0 p.1) numbers)

-- ---- a step

-- what one step says of it
pub record IsStep (content : Option Files) (c d : StreamBody) (before now : Option (List ℕ)) (step : Step) : Type 0 where
  pub written : IfSome content (λ files. StepGrows step before now (next_bytes files c.writing (plan_rows c.plan) c.plan.places))
  pub packets : StepPackets step before now
  pub samples : StepLeaves step (samples_to_come c.writing.progress (plan_rows c.plan) c.plan.places) (samples_due c.writing.progress (plan_rows c.plan) c.plan.places)
      (samples_to_come d.writing.progress (plan_rows c.plan) d.plan.places)
  pub judged : IfSome content (λ files. IsJudged (is_good_row files (plan_rows c.plan) c.writing.stream.hevc) step (samples_due c.writing.progress (plan_rows c.plan) c.plan.places))
  pub bad : IsBadOf step (samples_due c.writing.progress (plan_rows c.plan) c.plan.places)
  pub counted : IfSome content (λ files. step ≡ Again → d.writing.stream ≡ stream_after files c.writing (plan_rows c.plan) c.plan.places)
  pub left : AreLeft d.writing.progress (plan_rows c.plan) d.plan.places
  pub under_way : is_under_way d.writing.progress ≡ is_again step
  pub begun : HasBegun d.writing.progress
  pub same : d.writing ≡ written_on c.writing d.writing

module _ (c d : StreamBody) (under : IsTrue (is_under_way c.writing.progress)) (rows_same : plan_rows d.plan ≡ plan_rows c.plan) where
  abbrev rows : SegmentRows
  rows = plan_rows c.plan

  abbrev rest : Files → List ℕ
  rest files = rest_of files c.writing rows c.plan.places

  abbrev first : Files → Option TrackRow
  first files = first_bad files rows c.writing.stream.hevc (samples_to_come c.writing.progress rows c.plan.places)

  -- what is written, where files are told
  advances : (content : Option Files) (before now : Option (List ℕ)) (step : Step) → IsStreamOf content c → IsStep content c d before now step
      → Advances (rest_in content (Stream c)) (rest_in content (Stream d)) before now step
  advances None before now step of is = tt
  advances (Some files) before now Again of is =
      let way = written_again rows c.writing c.plan.places under (Some files) d.writing d.plan.places before before now rest is.under_way is.begun of.starts is.samples is.judged is.counted (nothing_yet before (rest files)) is.written in
      let bad = first_again rows c.writing c.plan.places under (Some files) d.writing d.plan.places first is.same is.samples is.judged refl in
      (way.done, rest_of files d.writing rows d.plan.places, way.all_is, rw (rows_same, bad) refl, way.grew)
  advances (Some files) before now Whole of is = (
    end_whole (first files) (cut_whole rows c.writing c.plan.places under (Some files) first is.samples is.judged refl),
    written_whole rows c.writing c.plan.places under (Some files) before before now rest of.starts is.samples (nothing_yet before (rest files)) is.written,
  )
  advances (Some files) before now (BadNal file sample) of is = (
    end_cut (first files) file sample (cut_at rows c.writing c.plan.places under file sample is.bad (Some files) first is.judged refl),
    written_bad rows c.writing c.plan.places under file sample is.bad (Some files) before before now rest is.judged (nothing_yet before (rest files)) is.written,
  )
  advances (Some files) before now StoreFailed of is =
      written_failed rows c.writing c.plan.places under (Some files) before before now rest of.starts (nothing_yet before (rest files)) is.written
  advances (Some files) before now SinkFailed of is =
      written_failed rows c.writing c.plan.places under (Some files) before before now rest of.starts (nothing_yet before (rest files)) is.written

  packets : (before now : Option (List ℕ)) (step : Step) → StepPackets step before now → KeepsPackets true before now step
  packets before now Again grew = (grew.more, grew.grew, grew.whole)
  packets before now Whole grew = (grew.more, grew.grew, grew.whole)
  packets before now (BadNal file sample) grew = (grew.more, grew.grew, grew.whole)
  packets before now StoreFailed grew = tt
  packets before now SinkFailed grew = tt

  -- it is under way after `Again` alone
  goes_on : (on : Bool) (step : Step) → on ≡ is_again step → IsTrue on ↔ (step ≡ Again)
  goes_on on Again is = (λ true_is. refl, λ again. is)
  goes_on on Whole is = (λ true_is. let no : false ≡ true = sym is ∙ true_is in absurd cc, λ again. cc)
  goes_on on (BadNal file sample) is = (λ true_is. let no : false ≡ true = sym is ∙ true_is in absurd cc, λ again. cc)
  goes_on on StoreFailed is = (λ true_is. let no : false ≡ true = sym is ∙ true_is in absurd cc, λ again. cc)
  goes_on on SinkFailed is = (λ true_is. let no : false ≡ true = sym is ∙ true_is in absurd cc, λ again. cc)

  fewer : (content : Option Files) (before now : Option (List ℕ)) (step : Step) → IsStreamOf content c → IsStep content c d before now step → step ≡ Again
      → steps_left d.writing.progress rows d.plan.places < steps_left c.writing.progress rows c.plan.places
  fewer content before now Again of is again = steps_left-falls c.writing.progress d.writing.progress rows c.plan.places d.plan.places under of.more is.begun is.samples
  fewer content before now Whole of is again = cc
  fewer content before now (BadNal file sample) of is again = cc
  fewer content before now StoreFailed of is again = cc
  fewer content before now SinkFailed of is again = cc

  pub stream_steps : (content : Option Files) (before now : Option (List ℕ)) (step : Step) → IsStreamOf content c → IsStep content c d before now step → Steps content (Stream c) (Stream d) before now step
  stream_steps content before now step of is = record {
    belongs = record {
      left = subst (λ (r : SegmentRows). AreLeft d.writing.progress r d.plan.places) (sym rows_same) is.left;
      writable = subst (λ (r : SegmentRows). AreWritable content r d.writing) (sym rows_same) (still_writable content rows c.writing d.writing is.same of.writable);
      more = has_more d.writing.progress is.begun;
      starts = starts d.writing.progress d.writing.stream.counters is.begun;
    };
    under_way = goes_on (is_under_way d.writing.progress) step is.under_way;
    fewer = λ again. rw rows_same (fewer content before now step of is again);
    advances = advances content before now step of is;
    in_packets = refl;
    packets = packets before now step is.packets;
  }
