-- From cell to cell.
use Rattle.std.proofs.Common.{◌≡◌, w64, of_z, to_z, map, length, sym, ◌∙◌, arith}
use Rattle.std.proofs.lemmas.Int.{ints}
use Rattle.std.proofs.lemmas.List.{length-map}
use Rattle.segment_model.specs.Listing.{listed_view}
use Rattle.seq_cells.specs.Cells.{part_grid_of}
use Rattle.vod_plan.specs.ListingCells.{part_rows}
use Rattle.vod_plan.proofs.ListingSteps.{listed_next, next_begin}
use Rattle.vod_plan.proofs.listed_part.ListedPart.list_cells.Goals as goal

pub loop-k-preserved : goal.loop-k-preserved
loop-k-preserved g c =
    let p = c.args.self.now in
    let grid = part_grid_of p.cells in
    let rows = part_rows p in
    let was = c.loop-k.invariant in
    let old = c.args.out.now.items in
    let out = c.loop-k.out.items in
    let next = c.begin-next.result in
    let same : to_z w64 (of_z w64 c.args.end) ≡ c.args.end = omega (arith, ints, c.requires.small) in
    record {
      fronts = c.begin-next.ensures.fronts;
      others_are = was.others_are;
      few = omega (arith, was.few, c.in_ok-list_cell.ensures.count);
      parts = λ before. c.in_ok-list_cell.ensures.parts (was.parts before);
      looks = omega (arith, was.looks, c.begin-next.ensures.looks);
      listed = λ s lead other.
          let before = was.listed s lead other in
          let begins = next_begin grid rows s lead c.loop-k.k c.loop-k-test.true c.loop-k.from next before.0 c.begin-next.ensures.time c.begin-next.ensures.lead c.begin-next.ensures.other in (
            begins,
            listed_next grid rows p.leads p.part p.number s lead other (to_z w64 (of_z w64 c.args.end)) (same ∙ c.requires.end) c.loop-k.k c.loop-k-test.true c.loop-k.from next before.0 begins
                (map listed_view old) (map listed_view out) (map listed_view c.list_cell.new.out.items) c.len-others.result (length out)
                (was.others_are ∙ sym (length-map old listed_view)) (sym (length-map out listed_view)) before.1 c.in_ok-list_cell.ensures.row,
          );
    }
