-- So many pieces were looked at.
use Rattle.std.proofs.Common.{◌≡◌, ◌≤◌, ◌<◌, ◌+◌, length, take, drop, IfSome, All}
use Rattle.clip_model.specs.IsTimeline.{IsPiece}
use Rattle.vod_meta.specs.Held.{names_held, AreTrue}
use Rattle.flat_lists.specs.LookedParts.{AreWithPieces}
use Rattle.seek_lists.specs.PartTracks.{part_seen, ArePlaced}
use Rattle.seek_lists.proofs.LookedLemmas.{IsLaterWalk}
use Rattle.seek_lists.proofs.looked_parts.look_at_later.Given as goal

abbrev pub invariant-loop-piece : goal.invariant-loop-piece
invariant-loop-piece g l = record {
  content : g.S.Store.content l.store ≡ g.S.Store.content l.fn.store;
  later : g.S.Store.faults l.fn.store ≤ g.S.Store.faults l.store;
  pieces : All IsPiece l.pieces;
  few : length l.pieces < 1024;
  count : l.place ≡ l.piece-index + 1;
  held : IfSome (g.S.Store.content l.store) (λ known. AreTrue known l.metas);
  placed : ArePlaced l.place l.part;
  of : AreWithPieces 1 (take l.piece-index l.pieces) (part_seen l.fn.first) (part_seen l.part);
  walk : IfSome (g.S.Store.content l.fn.store) (λ known.
      IsLaterWalk known l.edits l.asked l.pieces (drop l.piece-index l.pieces) l.place (part_seen l.fn.first) (part_seen l.part) (names_held l.fn.metas) (names_held l.metas) (g.S.Store.log l.fn.store) (g.S.Store.log l.store));
}
