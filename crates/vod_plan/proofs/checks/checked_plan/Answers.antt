-- The plan of checked rows, or the first refusal.
use Rattle.std.proofs.Common.{◌≡◌, List, Ok, length, map, refl, sym, ap, subst, ◌∙◌, arith}
use Rattle.std.proofs.lemmas.List.{length-map}
use Rattle.vod_types.specs.declared.tracks.Kind.TheVariants.{Video, Audio}
use Rattle.vod_types.specs.Results.{unless}
use Rattle.origin_model.specs.Samples.{SegmentPlan, sizes_of}
use Rattle.vod_plan.specs.declared.spans.PlanPiece.{PlanPiece}
use Rattle.vod_plan.specs.Passes.{ordered_rows}
use Rattle.vod_plan.specs.RowFaults.{begins_in, facts_of, first_fault, front_in, largest_in}
use Rattle.vod_plan.specs.Spans.{piece_view, rows_before}
use Rattle.vod_plan.proofs.DueRows.{AreLow, due-front, due-row, due-bytes, due-plan, plan-shown, plan_largest, plan_bytes, video_ends, audio_ends, all_fit, counted_rows, led, others, through}
use Rattle.vod_plan.proofs.checks.checked_plan.Goals as goal

pub returns-in-Err-clause-answers : goal.returns-in-Err-clause-answers
returns-in-Err-clause-answers g c = λ cs are other.
    let ps : List PlanPiece = c.args.pieces.items in
    let v = counted_rows Video c.deref.result.now ps c.count_of-video.result c.deref.ensures.value c.requires.pieces c.count_of-video.ensures in
    let a = counted_rows Audio c.deref-2.result.now ps c.count_of-audio.result c.deref-2.ensures.value c.requires.pieces c.count_of-audio.ensures in
    let n = c.lead_first-counts.result in
    due-front c.args.number c.args.form c.args.asked ps n.0 n.1 (led c.args.asked ps c.count_of-video.result c.count_of-audio.result n v a c.lead_first-counts.ensures) (others c.args.asked ps c.count_of-video.result c.count_of-audio.result n v a c.lead_first-counts.ensures) cs are c.in-Err.refusal
    (ap (λ (ps : List PlanPiece). unless (front_in c.args.number c.args.form (map facts_of ps) n.0 n.1)) (sym c.deref-3.ensures.value) ∙ c.in-Err.ensures.answers other)

pub returns-in-Err-passed-clause-answers : goal.returns-in-Err-passed-clause-answers
returns-in-Err-passed-clause-answers g c = λ cs are other.
    let ps : List PlanPiece = c.args.pieces.items in
    let v = counted_rows Video c.deref.result.now ps c.count_of-video.result c.deref.ensures.value c.requires.pieces c.count_of-video.ensures in
    let a = counted_rows Audio c.deref-2.result.now ps c.count_of-audio.result c.deref-2.ensures.value c.requires.pieces c.count_of-audio.ensures in
    let n = c.lead_first-counts.result in
    due-row c.args.number c.args.form c.args.asked ps n.0 n.1 (led c.args.asked ps c.count_of-video.result c.count_of-audio.result n v a c.lead_first-counts.ensures) (others c.args.asked ps c.count_of-video.result c.count_of-audio.result n v a c.lead_first-counts.ensures) cs are
    c.in-Ok.field-0 (ap (λ (ps : List PlanPiece). unless (front_in c.args.number c.args.form (map facts_of ps) n.0 n.1)) (sym c.deref-3.ensures.value) ∙ c.in-Ok.ensures.answers)
    c.in-Err-passed.refusal
    (ap (λ (ps : List PlanPiece). first_fault c.args.form (map facts_of ps) (ordered_rows c.args.form (map piece_view ps))) (sym c.deref-4.ensures.value) ∙ c.in-Err-passed.ensures.refused other)

pub returns-in-Err-passed-clause-looks : goal.returns-in-Err-passed-clause-looks
returns-in-Err-passed-clause-looks g c =
    let ps : List PlanPiece = c.args.pieces.items in
    let v = counted_rows Video c.deref.result.now ps c.count_of-video.result c.deref.ensures.value c.requires.pieces c.count_of-video.ensures in
    let a = counted_rows Audio c.deref-2.result.now ps c.count_of-audio.result c.deref-2.ensures.value c.requires.pieces c.count_of-audio.ensures in
    let through_all = through c.args.asked ps c.count_of-video.result c.count_of-audio.result c.lead_first-counts.result v a c.lead_first-counts.ensures c.in-Ok.ensures.lead c.in-Ok.ensures.other in
    omega (arith, through_all, c.in-Err-passed.ensures.looks, ap length c.deref-4.ensures.value)

pub returns-then-pass-gt2130706432-clause-answers : goal.returns-then-pass-gt2130706432-clause-answers
returns-then-pass-gt2130706432-clause-answers g c = λ cs are other.
    let ps : List PlanPiece = c.args.pieces.items in
    let v = counted_rows Video c.deref.result.now ps c.count_of-video.result c.deref.ensures.value c.requires.pieces c.count_of-video.ensures in
    let a = counted_rows Audio c.deref-2.result.now ps c.count_of-audio.result c.deref-2.ensures.value c.requires.pieces c.count_of-audio.ensures in
    let n = c.lead_first-counts.result in
    due-bytes c.args.number c.args.form c.args.asked ps n.0 n.1 (led c.args.asked ps c.count_of-video.result c.count_of-audio.result n v a c.lead_first-counts.ensures) (others c.args.asked ps c.count_of-video.result c.count_of-audio.result n v a c.lead_first-counts.ensures) cs are
    c.in-Ok.field-0 (ap (λ (ps : List PlanPiece). unless (front_in c.args.number c.args.form (map facts_of ps) n.0 n.1)) (sym c.deref-3.ensures.value) ∙ c.in-Ok.ensures.answers)
    (ap (λ (ps : List PlanPiece). first_fault c.args.form (map facts_of ps) (ordered_rows c.args.form (map piece_view ps))) (sym c.deref-4.ensures.value) ∙ c.in-Ok-passed.ensures.sound)
    c.in-Ok-passed.pass.bytes
    (c.in-Ok-passed.ensures.bytes ∙ ap (λ (ps : List PlanPiece). sizes_of (ordered_rows c.args.form (map piece_view ps))) c.deref-4.ensures.value)
    c.if-pass-gt2130706432.true

pub returns-then-pass-gt2130706432-clause-looks : goal.returns-then-pass-gt2130706432-clause-looks
returns-then-pass-gt2130706432-clause-looks g c =
    let ps : List PlanPiece = c.args.pieces.items in
    let v = counted_rows Video c.deref.result.now ps c.count_of-video.result c.deref.ensures.value c.requires.pieces c.count_of-video.ensures in
    let a = counted_rows Audio c.deref-2.result.now ps c.count_of-audio.result c.deref-2.ensures.value c.requires.pieces c.count_of-audio.ensures in
    let through_all = through c.args.asked ps c.count_of-video.result c.count_of-audio.result c.lead_first-counts.result v a c.lead_first-counts.ensures c.in-Ok.ensures.lead c.in-Ok.ensures.other in
    omega (arith, through_all, c.in-Ok-passed.ensures.looks, ap length c.deref-4.ensures.value)

pub invariant_of-result : goal.invariant_of-result
invariant_of-result g c =
    let ps : List PlanPiece = c.args.pieces.items in
    let fit = all_fit c.args.form (map piece_view ps) (subst (λ (ps : List PlanPiece). AreLow (ordered_rows c.args.form (map piece_view ps))) c.deref-4.ensures.value c.in-Ok-passed.ensures.ends) in
    let last = sym (length-map ps piece_view) in
    let v : c.count_of-video.result ≡ rows_before Video (map piece_view ps) (length (map piece_view ps)) = c.count_of-video.ensures ∙ ap (λ (now : List PlanPiece). rows_before Video (map piece_view now) (length now)) c.deref.ensures.value ∙ ap (rows_before Video (map piece_view ps)) last in
    let a : c.count_of-audio.result ≡ rows_before Audio (map piece_view ps) (length (map piece_view ps)) = c.count_of-audio.ensures ∙ ap (λ (now : List PlanPiece). rows_before Audio (map piece_view now) (length now)) c.deref-2.ensures.value ∙ ap (rows_before Audio (map piece_view ps)) last in
    record {
      count = c.requires.few;
      pieces = c.requires.pieces;
      video = c.first.ensures.walk Video (map piece_view ps) v;
      audio = c.first-2.ensures.walk Audio (map piece_view ps) a;
      video_fits = fit.0;
      audio_fits = fit.1;
    }

pub returns-clause-answers : goal.returns-clause-answers
returns-clause-answers g c = λ cs are.
    let ps : List PlanPiece = c.args.pieces.items in
    let v = counted_rows Video c.deref.result.now ps c.count_of-video.result c.deref.ensures.value c.requires.pieces c.count_of-video.ensures in
    let a = counted_rows Audio c.deref-2.result.now ps c.count_of-audio.result c.deref-2.ensures.value c.requires.pieces c.count_of-audio.ensures in
    let n = c.lead_first-counts.result in
    due-plan c.args.number c.args.form c.args.asked ps n.0 n.1 (led c.args.asked ps c.count_of-video.result c.count_of-audio.result n v a c.lead_first-counts.ensures) (others c.args.asked ps c.count_of-video.result c.count_of-audio.result n v a c.lead_first-counts.ensures) cs are
    c.in-Ok.field-0 (ap (λ (ps : List PlanPiece). unless (front_in c.args.number c.args.form (map facts_of ps) n.0 n.1)) (sym c.deref-3.ensures.value) ∙ c.in-Ok.ensures.answers)
    (ap (λ (ps : List PlanPiece). first_fault c.args.form (map facts_of ps) (ordered_rows c.args.form (map piece_view ps))) (sym c.deref-4.ensures.value) ∙ c.in-Ok-passed.ensures.sound)
    c.in-Ok-passed.pass.bytes
    (c.in-Ok-passed.ensures.bytes ∙ ap (λ (ps : List PlanPiece). sizes_of (ordered_rows c.args.form (map piece_view ps))) c.deref-4.ensures.value)
    c.if-pass-gt2130706432.false
    ∙ ap (λ (plan : SegmentPlan). Ok plan) (plan-shown ps _ refl (c.begins_with_hevc-hevc.ensures ∙ ap (λ (ps : List PlanPiece). begins_in (map facts_of ps)) c.deref-5.ensures.value))

pub returns-clause-largest : goal.returns-clause-largest
returns-clause-largest g c =
    c.in-Ok-passed.ensures.largest ∙ ap (λ (ps : List PlanPiece). largest_in (ordered_rows c.args.form (map piece_view ps))) c.deref-4.ensures.value ∙ plan_largest _ (map piece_view c.args.pieces.items) refl

pub returns-clause-bytes : goal.returns-clause-bytes
returns-clause-bytes g c =
    c.in-Ok-passed.ensures.bytes ∙ ap (λ (ps : List PlanPiece). sizes_of (ordered_rows c.args.form (map piece_view ps))) c.deref-4.ensures.value ∙ plan_bytes _ (map piece_view c.args.pieces.items) refl

pub returns-clause-video_ends : goal.returns-clause-video_ends
returns-clause-video_ends g c =
    video_ends _ (map piece_view c.args.pieces.items) refl (subst (λ (ps : List PlanPiece). AreLow (ordered_rows c.args.form (map piece_view ps))) c.deref-4.ensures.value c.in-Ok-passed.ensures.ends)

pub returns-clause-audio_ends : goal.returns-clause-audio_ends
returns-clause-audio_ends g c =
    audio_ends _ (map piece_view c.args.pieces.items) refl (subst (λ (ps : List PlanPiece). AreLow (ordered_rows c.args.form (map piece_view ps))) c.deref-4.ensures.value c.in-Ok-passed.ensures.ends)

pub returns-clause-looks : goal.returns-clause-looks
returns-clause-looks g c =
    let ps : List PlanPiece = c.args.pieces.items in
    let v = counted_rows Video c.deref.result.now ps c.count_of-video.result c.deref.ensures.value c.requires.pieces c.count_of-video.ensures in
    let a = counted_rows Audio c.deref-2.result.now ps c.count_of-audio.result c.deref-2.ensures.value c.requires.pieces c.count_of-audio.ensures in
    let through_all = through c.args.asked ps c.count_of-video.result c.count_of-audio.result c.lead_first-counts.result v a c.lead_first-counts.ensures c.in-Ok.ensures.lead c.in-Ok.ensures.other in
    omega (arith, through_all, c.in-Ok-passed.ensures.looks, ap length c.deref-4.ensures.value)
