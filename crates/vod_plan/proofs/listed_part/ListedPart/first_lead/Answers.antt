-- A search finds the first lead row of a cell; behind the last cell the part's end stands for it.
use Rattle.std.proofs.Common.{◌≡◌, ◌≤◌, ℤ, w64, of_z, to_z, map, subst, arith}
use Rattle.std.proofs.lemmas.Int.{ints}
use Rattle.std.specs.List.{position_or_len}
use Rattle.seq_cells.specs.Cells.{part_grid_of}
use Rattle.vod_plan.specs.ListingReach.{place_of}
use Rattle.vod_plan.specs.Ranges.{planned_of}
use Rattle.vod_plan.specs.Selected.{begins_by}
use Rattle.vod_plan.specs.Spans.{piece_view}
use Rattle.vod_plan.proofs.CellLemmas.{end_is}
use Rattle.vod_plan.proofs.ListingSteps.{lead_found}
use Rattle.vod_plan.proofs.listed_part.ListedPart.first_lead.Goals as goal

pub returns-then-k-self-clause-row : goal.returns-then-k-self-clause-row
returns-then-k-self-clause-row g c = λ le.
    let p = c.args.self.now in
    end_is (part_grid_of p.cells) c.args.k (planned_of p.leads (map piece_view p.pieces.now)) (place_of c.reach_end.result) c.if-k-self.true c.reach_end.ensures.place

pub returns-clause-row : goal.returns-clause-row
returns-clause-row g c =
    let p = c.args.self.now in
    let rows = planned_of p.leads (map piece_view p.pieces.now) in
    let same : to_z w64 (of_z w64 c.time.result) ≡ c.time.result = omega (arith, ints, c.time.ensures.bound) in
    let found = subst (λ (t : ℤ). c.args.earlier.before ≤ position_or_len (begins_by p.cells.align t) rows → place_of c.reach_time.result ≡ position_or_len (begins_by p.cells.align t) rows) same c.reach_time.ensures.place in
    lead_found (part_grid_of p.cells) rows c.args.k c.time.result c.args.earlier.before (place_of c.reach_time.result) c.if-k-self.false c.time.ensures.time found
