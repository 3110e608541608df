use Rattle.std.proofs.Common.{◌≡◌, ◌≤◌, length, drop, IfSome, All}
use Rattle.vod_types.specs.Lists.{through_first}
use Rattle.clip_model.specs.IsTimeline.{IsPiece}
use Rattle.flat_segments.specs.Needed.{AreOfFirst, IsWalk, stops}
use Rattle.flat_segments.proofs.needed.needed_of.Given as goal

abbrev pub invariant-loop-piece : goal.invariant-loop-piece
invariant-loop-piece g l = record {
  content : g.S.Store.content l.files ≡ g.S.Store.content l.fn.files;
  later : g.S.Store.faults l.fn.files ≤ g.S.Store.faults l.files;
  count : length l.needed.files.items ≡ l.piece-index;
  of : AreOfFirst l.asked l.piece-index l.pieces l.needed;
  pieces : All IsPiece l.pieces;
  few : length l.pieces ≤ 1024;
  walk : IfSome (g.S.Store.content l.fn.files) (λ known.
      IsWalk known l.edits l.asked (through_first (stops known l.edits l.asked l.next) l.pieces) (through_first (stops known l.edits l.asked l.next) (drop l.piece-index l.pieces))
      l.movies l.needed (g.S.Store.log l.fn.files) (g.S.Store.log l.files));
}
