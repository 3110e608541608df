use Rattle.std.proofs.Common.{map, length, sym, ◌∙◌}
use Rattle.std.proofs.lemmas.List.{length-map}
use Rattle.flat_lists.specs.ListedCells.{slices_view}
use Rattle.segment_model.specs.Listing.{listed_view}
use Rattle.flat_segments.specs.Cells.{part_grid_of}
use Rattle.flat_lists.proofs.ListedCells.{next_begin, listed_next}
use Rattle.flat_lists.proofs.listed_part.ListedPart.list.Goals as goal

pub loop-k-preserved : goal.loop-k-preserved
loop-k-preserved c =
    let p = c.args.self.now in
    let g = part_grid_of p.cells in
    let rows = slices_view p.rows in
    let was = c.loop-k.invariant in
    let old = c.args.out.now.items in
    let out = c.loop-k.out.items in
    record {
      lead = c.begin-next.ensures.lead_within;
      other = c.begin-next.ensures.other_within;
      others_are = was.others_are;
      parts = λ before. c.in_ok-list_cell.ensures.parts (was.parts before);
      listed = λ s lead other.
          let before = was.listed s lead other in
          let begins = next_begin g rows s lead c.loop-k.k c.loop-k-test.true c.loop-k.from c.begin-next.result before.0 c.begin-next.ensures.lead c.begin-next.ensures.other in (
            begins,
            listed_next g rows p.leads p.part p.number s lead other c.loop-k.k c.loop-k-test.true c.loop-k.from c.begin-next.result before.0 begins
                (map listed_view old) (map listed_view out) (map listed_view c.list_cell.new.out.items) c.len-others.result (length out)
                (was.others_are ∙ sym (length-map old listed_view)) (sym (length-map out listed_view)) before.1 (c.in_ok-list_cell.ensures.row),
          );
    }

pub returns-clause-parts : goal.returns-clause-parts
returns-clause-parts c = c.loop-k.invariant.parts
