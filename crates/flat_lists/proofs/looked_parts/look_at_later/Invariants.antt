use Rattle.std.proofs.Common.{◌≡◌, ◌≤◌, ◌<◌, ◌+◌, length, take, drop, IfSome, All}
use Rattle.clip_model.specs.IsTimeline.{IsPiece}
use Rattle.flat_samples.specs.Movies.{AreTrue}
use Rattle.flat_lists.specs.LookedParts.{AreWithPieces}
use Rattle.flat_lists.specs.PartTracks.{part_seen, ArePlaced}
use Rattle.flat_lists.proofs.LookedLemmas.{IsLaterWalk}
use Rattle.flat_lists.proofs.looked_parts.look_at_later.Given as goal

abbrev pub invariant-loop-piece : goal.invariant-loop-piece
invariant-loop-piece g l = record {
  content : g.S.Store.content l.files ≡ g.S.Store.content l.fn.files;
  later : g.S.Store.faults l.fn.files ≤ g.S.Store.faults l.files;
  pieces : All IsPiece l.pieces;
  few : length l.pieces < 1024;
  count : l.place ≡ l.piece-index + 1;
  placed : ArePlaced l.part;
  of : AreWithPieces 1 (take l.piece-index l.pieces) (part_seen l.fn.first) (part_seen l.part);
  walk : IfSome (g.S.Store.content l.fn.files) (λ known. AreTrue known l.fn.movies →
      IsLaterWalk known l.edits l.asked l.pieces (drop l.piece-index l.pieces) l.place (part_seen l.fn.first) (part_seen l.part) l.fn.movies l.movies (g.S.Store.log l.fn.files) (g.S.Store.log l.files));
}
