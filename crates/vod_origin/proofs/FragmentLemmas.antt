-- A fragment that is under way: one step of it.
use Rattle.std.proofs.Common.{◌≡◌, ℕ, ◌<◌, true, false, List, Option, Some, None, IfSome, IsTrue, refl, sym, ap, ◌∙◌, subst}
use Rattle.std.specs.Prelude.{◌↔◌}
use Rattle.vod_types.specs.SegmentRows.{SegmentRows, sample_bytes}
use Rattle.vod_source.specs.declared.step.Step.{Step}
use Rattle.vod_source.specs.declared.step.Step.TheVariants.{Again, Whole, BadNal, StoreFailed, SinkFailed}
use Rattle.vod_source.specs.Stored.{Files, bytes_of}
use Rattle.vod_http.specs.Answered.{Advances}
use Rattle.fmp4_writer.specs.declared.writing.Progress.{Progress}
use Rattle.fmp4_writer.specs.declared.writing.Progress.TheVariants.{Samples}
use Rattle.fmp4_writer.specs.Progress.{AreLeft, AreWritable, IsAnswer, StepGrows, is_under_way, left_after, next_bytes, places_left, progress_after, rest_of}
use Rattle.fmp4_writer.proofs.StepLemmas.{begun, steps_left, steps_left-falls, written_step, written_whole}
use Rattle.vod_plan.specs.Planned.{plan_rows}
use Rattle.vod_origin.specs.declared.cursor.Cursor.TheVariants.{Fragment}
use Rattle.vod_origin.specs.declared.cursor.FragmentBody.{FragmentBody}
use Rattle.vod_origin.specs.Bodies.{rest_in}
use Rattle.vod_origin.specs.Steps.{Steps}

module _ (c d : FragmentBody) (under : IsTrue (is_under_way c.writing)) (left : AreLeft c.writing (plan_rows c.plan) c.plan.places) (same : plan_rows d.plan ≡ plan_rows c.plan)
    (places : d.plan.places ≡ places_left c.writing (plan_rows c.plan) c.plan.places) where
  abbrev rows : SegmentRows
  rows = plan_rows c.plan

  abbrev rest : Files → List ℕ
  rest files = rest_of (sample_bytes (bytes_of files) rows) c.writing rows c.plan.places

  -- what is written, where files are told
  advances : (content : Option Files) (before now : Option (List ℕ)) (step : Step) → IsAnswer step (left_after c.writing rows) → d.writing ≡ progress_after step (left_after c.writing rows)
      → IfSome (next_bytes content c.writing rows c.plan.places) (StepGrows step before now) → Advances (rest_in content (Fragment c)) (rest_in content (Fragment d)) before now step
  advances None before now step answer progress grew = tt
  advances (Some files) before now Again answer progress grew =
      let way = written_step (Some files) rows c.plan.places Again c.writing (left_after c.writing rows) before before now rest under (begun before (rest files)) grew in
      (way.done, rest_of (sample_bytes (bytes_of files) rows) (Samples (left_after c.writing rows)) rows (places_left c.writing rows c.plan.places), way.all_is, rw (progress, same, places) refl, way.grew)
  advances (Some files) before now Whole answer progress grew =
      (refl, written_whole (Some files) rows c.plan.places c.writing before before now rest under left (begun before (rest files)) grew answer)
  advances (Some files) before now (BadNal file sample) answer progress grew = absurd answer
  advances (Some files) before now StoreFailed answer progress grew =
      written_step (Some files) rows c.plan.places StoreFailed c.writing 0 before before now rest under (begun before (rest files)) grew
  advances (Some files) before now SinkFailed answer progress grew =
      written_step (Some files) rows c.plan.places SinkFailed c.writing 0 before before now rest under (begun before (rest files)) grew

  -- it is under way after `Again` alone
  goes_on : (progress : Progress) (step : Step) (n : ℕ) → progress ≡ progress_after step n → IsTrue (is_under_way progress) ↔ (step ≡ Again)
  goes_on progress Again n is = (λ on. refl, λ again. rw is refl)
  goes_on progress Whole n is = (λ on. let no : false ≡ true = sym (ap is_under_way is) ∙ on in absurd cc, λ again. cc)
  goes_on progress (BadNal file sample) n is = (λ on. let no : false ≡ true = sym (ap is_under_way is) ∙ on in absurd cc, λ again. cc)
  goes_on progress StoreFailed n is = (λ on. let no : false ≡ true = sym (ap is_under_way is) ∙ on in absurd cc, λ again. cc)
  goes_on progress SinkFailed n is = (λ on. let no : false ≡ true = sym (ap is_under_way is) ∙ on in absurd cc, λ again. cc)

  fewer : (step : Step) → IsAnswer step (left_after c.writing rows) → d.writing ≡ progress_after step (left_after c.writing rows) → step ≡ Again
      → steps_left d.writing (plan_rows d.plan) < steps_left c.writing rows
  fewer Again answer progress again = rw progress (steps_left-falls c.writing rows under answer)
  fewer Whole answer progress again = cc
  fewer (BadNal file sample) answer progress again = absurd answer
  fewer StoreFailed answer progress again = cc
  fewer SinkFailed answer progress again = cc

  pub fragment_steps : (content : Option Files) (before now : Option (List ℕ)) (step : Step) → AreWritable content rows → AreLeft d.writing (plan_rows d.plan) d.plan.places
      → IsAnswer step (left_after c.writing rows) → d.writing ≡ progress_after step (left_after c.writing rows)
      → IfSome (next_bytes content c.writing rows c.plan.places) (StepGrows step before now) → Steps content (Fragment c) (Fragment d) before now step
  fragment_steps content before now step writable left' answer progress grew = record {
    belongs = record { left = left'; writable = subst (AreWritable content) (sym same) writable };
    under_way = goes_on d.writing step (left_after c.writing rows) progress;
    fewer = fewer step answer progress;
    advances = advances content before now step answer progress grew;
    in_packets = refl;
    packets = tt;
  }
