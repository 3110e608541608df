-- So many pieces were found, and the looks that are left give the others.
use Rattle.std.proofs.Common.{◌≡◌, ◌+◌, ◌*◌, ◌≤◌, length, drop, IfSome, All}
use Rattle.vod_types.specs.Lists.{through_first}
use Rattle.clip_model.specs.IsTimeline.{IsPiece}
use Rattle.seq_cells.specs.Cells.{stops}
use Rattle.vod_meta.specs.Held.{AreTrue}
use Rattle.vod_plan.specs.Looks.{tracks_asked}
use Rattle.vod_plan.specs.Needed.{AreFoundPieces, IsLookWalk}
use Rattle.vod_plan.specs.Spans.{IsPlanPiece}
use Rattle.vod_plan.proofs.needed.needed_of.Given as goal

abbrev pub invariant-loop-piece : goal.invariant-loop-piece
invariant-loop-piece g l = record {
  content : g.S.Store.content l.store ≡ g.S.Store.content l.fn.store;
  later : g.S.Store.faults l.fn.store ≤ g.S.Store.faults l.store;
  held : IfSome (g.S.Store.content l.store) (λ known. AreTrue known l.metas);
  count : length l.found.items ≡ l.piece-index;
  of : AreFoundPieces l.asked l.pieces l.found.items;
  kept : All IsPlanPiece l.found.items;
  pieces : All IsPiece l.pieces;
  few : length l.pieces ≤ 1024;
  looks : l.steps ≤ l.fn.steps + 1280 * (length l.found.items * tracks_asked l.asked);
  walk : IfSome (g.S.Store.content l.fn.store) (λ known.
      IsLookWalk known l.edits l.asked (through_first (stops known l.edits l.asked l.next) l.pieces) (through_first (stops known l.edits l.asked l.next) (drop l.piece-index l.pieces))
      l.found.items l.fn.metas l.metas (g.S.Store.log l.fn.store) (g.S.Store.log l.store));
}
