-- No lead row, or the rows of the cell.
use Rattle.std.proofs.Common.{◌≡◌, ◌+◌, ◌*◌, ◌≤◌, List, length, map, sym, ap, subst, ◌∙◌, arith}
use Rattle.vod_types.specs.Results.{Answers}
use Rattle.vod_types.specs.Tracks.{lead_of}
use Rattle.segment_model.specs.Lone.{lone_cell}
use Rattle.seq_cells.specs.Cells.{part_grid_of}
use Rattle.vod_plan.specs.declared.spans.PlanPiece.{PlanPiece}
use Rattle.vod_plan.specs.Looks.{samples_through}
use Rattle.vod_plan.specs.Planned.{plan_view}
use Rattle.vod_plan.specs.RowFaults.{AreTyped}
use Rattle.vod_plan.specs.Segments.{has_rows}
use Rattle.vod_plan.specs.Selected.{rows_planned, ArePiecesOf, AreSamePieces}
use Rattle.vod_plan.specs.Spans.{piece_view}
use Rattle.vod_plan.specs.Wanted.{wanted_rows}
use Rattle.vod_plan.proofs.CellPlans.{empty_cell, full_cell, full_looks, written_back}
use Rattle.vod_plan.proofs.FoundLemmas.{same_count}
use Rattle.vod_plan.proofs.PieceLemmas.{same_typed}
use Rattle.vod_plan.proofs.WritableCalls.{cell_refused, cell_writable}
use Rattle.vod_plan.proofs.lone.cell_plan.Goals as goal

pub returns-then-not-has_rows-clause-answers : goal.returns-then-not-has_rows-clause-answers
returns-then-not-has_rows-clause-answers g c = λ cs sound are memory.
    let none = ap (λ qs. has_rows c.lead_of-leads.result qs) (sym c.deref.ensures.value) ∙ sym c.has_rows.ensures ∙ c.if-not-has_rows.true in
    empty_cell c.args.number c.args.wanted c.args.asked cs (part_grid_of c.args.cells) c.args.k c.lead_of-leads.result c.args.needed.pieces.items c.lead_of-leads.ensures c.requires.pieces none sound are

pub wanted_plan-requires-clause-typed : goal.wanted_plan-requires-clause-typed
wanted_plan-requires-clause-typed g c =
    let same = subst (λ (ps : List PlanPiece). AreSamePieces ps c.cut_to_cell.new.pieces) c.deref_mut.ensures.value c.cut_to_cell.ensures.same in
    let back = written_back c.args.needed.pieces.len c.cut_to_cell.new.pieces c.args.needed.pieces.items (same_count c.args.needed.pieces.items c.cut_to_cell.new.pieces same)
    (let full : c.args.needed.pieces.len ≡ length c.args.needed.pieces.items = omega (arith, c.args.needed.pieces.ok.0) in full) in
    subst (λ (qs : List PlanPiece). AreTyped c.args.asked qs) (sym back)
    (same_typed c.args.asked c.args.needed.pieces.items c.cut_to_cell.new.pieces same c.requires.pieces c.cut_to_cell.ensures.pieces c.requires.typed)

pub returns-clause-answers : goal.returns-clause-answers
returns-clause-answers g c = λ cs sound are.
    let kind = c.lead_of-leads.result in
    let grid = part_grid_of c.args.cells in
    let cut = c.cut_to_cell.ensures.rows
    ∙ ap (λ (qs : List PlanPiece). lone_cell grid (rows_planned kind (map piece_view qs)) c.args.k) c.deref_mut.ensures.value in
    let same = subst (λ (ps : List PlanPiece). AreSamePieces ps c.cut_to_cell.new.pieces) c.deref_mut.ensures.value c.cut_to_cell.ensures.same in
    let back = written_back c.args.needed.pieces.len c.cut_to_cell.new.pieces c.args.needed.pieces.items (same_count c.args.needed.pieces.items c.cut_to_cell.new.pieces same)
    (let full : c.args.needed.pieces.len ≡ length c.args.needed.pieces.items = omega (arith, c.args.needed.pieces.ok.0) in full) in
    full_cell c.args.number c.args.wanted c.args.asked cs grid c.args.k kind c.args.needed.pieces.items c.cut_to_cell.new.pieces c.wanted_plan.result c.lead_of-leads.ensures cut same sound are
    (subst (λ (qs : List PlanPiece). ArePiecesOf cs qs → Answers plan_view c.wanted_plan.result (wanted_rows c.args.number c.args.wanted c.args.asked cs (rows_planned (lead_of c.args.asked) (map piece_view qs)))) back (c.wanted_plan.ensures.answers cs))

pub returns-clause-looks : goal.returns-clause-looks
returns-clause-looks g c = λ cs sound are.
    let kind = c.lead_of-leads.result in
    let grid = part_grid_of c.args.cells in
    let cut = c.cut_to_cell.ensures.rows
    ∙ ap (λ (qs : List PlanPiece). lone_cell grid (rows_planned kind (map piece_view qs)) c.args.k) c.deref_mut.ensures.value in
    let same = subst (λ (ps : List PlanPiece). AreSamePieces ps c.cut_to_cell.new.pieces) c.deref_mut.ensures.value c.cut_to_cell.ensures.same in
    let back = written_back c.args.needed.pieces.len c.cut_to_cell.new.pieces c.args.needed.pieces.items (same_count c.args.needed.pieces.items c.cut_to_cell.new.pieces same)
    (let full : c.args.needed.pieces.len ≡ length c.args.needed.pieces.items = omega (arith, c.args.needed.pieces.ok.0) in full) in
    let some = ap (λ qs. has_rows kind qs) (sym c.deref.ensures.value) ∙ sym c.has_rows.ensures ∙ c.if-not-has_rows.false in
    let cut_looks : c.cut_to_cell.new.steps ≤ c.args.steps.now + 1024 * length c.args.needed.pieces.items + 256 =
    subst (λ (ps : List PlanPiece). c.cut_to_cell.new.steps ≤ c.args.steps.now + 1024 * length ps + 256) c.deref_mut.ensures.value c.cut_to_cell.ensures.looks in
    full_looks c.args.number c.args.wanted c.args.asked cs grid c.args.k kind c.args.needed.pieces.items c.cut_to_cell.new.pieces c.args.steps.now c.cut_to_cell.new.steps c.wanted_plan.new.steps c.lead_of-leads.ensures cut same some sound are
    cut_looks
    (subst (λ (qs : List PlanPiece). c.wanted_plan.new.steps ≤ c.cut_to_cell.new.steps + 1152 * length qs + 8 + 8 * samples_through (rows_planned (lead_of c.args.asked) (map piece_view qs))) back c.wanted_plan.ensures.looks)

pub returns-clause-writable : goal.returns-clause-writable
returns-clause-writable g c =
    cell_writable c.args.number c.args.wanted c.args.asked (part_grid_of c.args.cells) c.args.k c.args.needed.pieces.items c.requires.of c.wanted_plan.result (returns-clause-answers g c) c.wanted_plan.ensures.counted

pub returns-clause-refused : goal.returns-clause-refused
returns-clause-refused g c =
    cell_refused c.args.number c.args.wanted c.args.asked (part_grid_of c.args.cells) c.args.k c.args.needed.pieces.items c.requires.of c.wanted_plan.result (returns-clause-answers g c)
