-- What all rows are refused for, no such I-frame, or the plan of the one row.
use Rattle.std.proofs.Common.{◌≡◌, List, length, map, subst, sym, arith}
use Rattle.vod_types.specs.declared.segments.Form.TheVariants.{Ts}
use Rattle.vod_types.specs.Results.{Answers}
use Rattle.vod_types.specs.Tracks.{lead_of}
use Rattle.origin_model.specs.Samples.{checked_rows}
use Rattle.vod_plan.specs.declared.spans.PlanPiece.{PlanPiece}
use Rattle.vod_plan.specs.Planned.{plan_view}
use Rattle.vod_plan.specs.RowFaults.{AreTyped}
use Rattle.vod_plan.specs.Selected.{rows_planned, ArePiecesOf, AreSamePieces}
use Rattle.vod_plan.specs.Spans.{piece_view}
use Rattle.vod_plan.proofs.CellPlans.{written_back}
use Rattle.vod_plan.proofs.FoundLemmas.{same_count}
use Rattle.vod_plan.proofs.LoneIframes.{alone_found, alone_refused, alone_unfound, sound_pieces}
use Rattle.vod_plan.proofs.PieceLemmas.{same_typed}
use Rattle.vod_plan.proofs.WritableCalls.{counted_of}
use Rattle.vod_plan.proofs.lone_iframe.iframe_plan.Goals as goal

pub returns-in-Err-clause-answers : goal.returns-in-Err-clause-answers
returns-in-Err-clause-answers g c = λ cs are other.
    alone_refused c.args.number c.args.index c.args.asked cs c.args.pieces.items are c.deref.result.now c.in-Err.refusal c.deref.ensures.value (λ shown. c.in-Err.ensures.answers cs shown other)

pub checked_plan-requires-clause-typed : goal.checked_plan-requires-clause-typed
checked_plan-requires-clause-typed g c =
    let items = c.args.pieces.items in
    let same = subst (λ (ps : List PlanPiece). AreSamePieces ps c.cut_to_sync.new.pieces) c.deref_mut.ensures.value c.in-Ok-cut_to_sync.ensures.same in
    let back = written_back c.args.pieces.len c.cut_to_sync.new.pieces items (same_count items c.cut_to_sync.new.pieces same) (let full : c.args.pieces.len ≡ length items = omega (arith, c.args.pieces.ok.0) in full) in
    subst (λ (qs : List PlanPiece). AreTyped c.args.asked qs) (sym back)
    (same_typed c.args.asked items c.cut_to_sync.new.pieces same (sound_pieces items c.requires.pieces) (sound_pieces c.cut_to_sync.new.pieces c.cut_to_sync.ensures.pieces) c.requires.typed)

pub returns-in-Ok-cut_to_sync-clause-answers : goal.returns-in-Ok-cut_to_sync-clause-answers
returns-in-Ok-cut_to_sync-clause-answers g c = λ cs are.
    let items = c.args.pieces.items in
    let same = subst (λ (ps : List PlanPiece). AreSamePieces ps c.cut_to_sync.new.pieces) c.deref_mut.ensures.value c.in-Ok-cut_to_sync.ensures.same in
    let back = written_back c.args.pieces.len c.cut_to_sync.new.pieces items (same_count items c.cut_to_sync.new.pieces same) (let full : c.args.pieces.len ≡ length items = omega (arith, c.args.pieces.ok.0) in full) in
    alone_found c.args.number c.args.index c.args.asked cs items are c.deref.result.now _ c.lead_of-leads.result c.in-Ok.field-0 c.deref.ensures.value c.deref_mut.ensures.value c.lead_of-leads.ensures (c.in-Ok.ensures.answers cs)
    c.cut_to_sync.new.pieces c.checked_plan.result c.in-Ok-cut_to_sync.ensures.found c.in-Ok-cut_to_sync.ensures.same
    (subst (λ (qs : List PlanPiece). ArePiecesOf cs qs → Answers plan_view c.checked_plan.result (checked_rows c.args.number Ts c.args.asked cs (rows_planned (lead_of c.args.asked) (map piece_view qs)))) back (c.checked_plan.ensures.answers cs))

pub returns-in-Err-cut_to_sync-clause-answers : goal.returns-in-Err-cut_to_sync-clause-answers
returns-in-Err-cut_to_sync-clause-answers g c = λ cs are other.
    alone_unfound c.args.number c.args.index c.args.asked cs c.args.pieces.items are c.deref.result.now _ c.lead_of-leads.result c.in-Ok.field-0 c.deref.ensures.value c.deref_mut.ensures.value c.lead_of-leads.ensures (c.in-Ok.ensures.answers cs)
    c.in-Err-cut_to_sync.refusal c.in-Err-cut_to_sync.ensures.none.0 c.in-Err-cut_to_sync.ensures.none.1

pub returns-in-Ok-cut_to_sync-clause-counted : goal.returns-in-Ok-cut_to_sync-clause-counted
returns-in-Ok-cut_to_sync-clause-counted g c =
    counted_of c.checked_plan.result c.checked_plan.ensures.largest c.checked_plan.ensures.bytes c.checked_plan.ensures.small c.checked_plan.ensures.video_ends c.checked_plan.ensures.audio_ends
