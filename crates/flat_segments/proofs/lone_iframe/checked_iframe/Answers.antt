use Rattle.std.proofs.Common.{◌≡◌, None, Err, map, ap, sym, ◌∙◌, subst}
use Rattle.vod_types.specs.declared.segments.Form.TheVariants.{Ts}
use Rattle.vod_types.specs.Lists.{nth_from_one}
use Rattle.vod_types.specs.Results.{Answers}
use Rattle.segment_model.specs.Iframes.{sync_rows}
use Rattle.origin_model.specs.Samples.{checked_rows, front_fault}
use Rattle.flat_samples.specs.Rows.{part_rows, timed_view}
use Rattle.flat_segments.specs.RowFaults.{front_in}
use Rattle.flat_segments.specs.Segments.{facts_of, flat_plan}
use Rattle.flat_segments.proofs.DueRows.{front-is}
use Rattle.flat_segments.proofs.LoneIframes.{iframe_front, iframe_is, iframe_none, unless_none, unless_some}
use Rattle.flat_segments.proofs.lone_iframe.checked_iframe.Goals as goal

pub returns-in-Err-clause-answers : goal.returns-in-Err-clause-answers
returns-in-Err-clause-answers c = λ pieces kept other.
    let rows = part_rows c.args.rows.now in
    iframe_front c.args.asked pieces c.args.number c.args.index rows c.in-Err.refusal
    (front-is c.args.number Ts pieces rows ∙ ap (λ facts. front_in c.args.number Ts facts rows) (kept ∙ ap (map facts_of) (sym c.deref.ensures.value)) ∙ unless_some _ _ (c.in-Err.ensures.answers other))

pub returns-in-Ok-alone-clause-answers : goal.returns-in-Ok-alone-clause-answers
returns-in-Ok-alone-clause-answers c = λ pieces kept.
    let rows = part_rows c.args.rows.now in
    let front : front_fault c.args.number Ts pieces rows ≡ None =
    front-is c.args.number Ts pieces rows ∙ ap (λ facts. front_in c.args.number Ts facts rows) (kept ∙ ap (map facts_of) (sym c.deref.ensures.value)) ∙ unless_none _ _ c.in-Ok.ensures.answers in
    let found = c.in-Ok-alone.ensures.found in
    let at = ap (λ samples. nth_from_one (sync_rows (map timed_view samples)) c.args.index) (sym c.deref-2.ensures.value) ∙ found.1 in
    subst (λ due. Answers flat_plan c.checked_rows.result due)
    (ap (checked_rows c.args.number Ts c.args.asked pieces) found.2 ∙ sym (iframe_is c.args.asked pieces found.0 c.args.number rows front c.args.index at))
    (c.checked_rows.ensures.answers pieces kept)

pub returns-in-Err-alone-clause-answers : goal.returns-in-Err-alone-clause-answers
returns-in-Err-alone-clause-answers c = λ pieces kept other.
    let rows = part_rows c.args.rows.now in
    let front : front_fault c.args.number Ts pieces rows ≡ None =
    front-is c.args.number Ts pieces rows ∙ ap (λ facts. front_in c.args.number Ts facts rows) (kept ∙ ap (map facts_of) (sym c.deref.ensures.value)) ∙ unless_none _ _ c.in-Ok.ensures.answers in
    let none = rw c.deref-2.ensures.value at (c.in-Err-alone.ensures.none other) in
    iframe_none c.args.asked pieces c.args.number c.args.index rows front none.0 ∙ ap Err (sym none.1)
