use Rattle.std.proofs.Common.{◌≡◌, ◌++◌, ◌+◌, ◌-◌, ◌≤◌, length, map, drop}
use Rattle.segment_model.specs.Iframes.{sync_rows}
use Rattle.flat_samples.specs.Rows.{timed_view}
use Rattle.flat_lists.specs.Marks.{cell_marks, AreMarks}
use Rattle.flat_lists.proofs.IframeMarks.{marks_at}
use Rattle.flat_lists.proofs.iframe_marks.put_cell.Given as goal

abbrev pub invariant-loop-row : goal.invariant-loop-row
invariant-loop-row l = record {
  within : l.others ≤ length l.out.items;
  marks : l.out.items ++ marks_at l.of (length l.out.items - l.others + 1) (sync_rows (map timed_view (drop l.row-index l.lead))) ≡ l.initial.out.items ++ cell_marks l.of (map timed_view l.lead);
  small : AreMarks l.initial.out.items → AreMarks l.out.items;
}
