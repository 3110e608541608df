use Rattle.std.proofs.Common.{◌≡◌, ◌++◌, ◌+◌, drop, map}
use Rattle.media_model.specs.Clip.{placed_from}
use Rattle.media_model.specs.Fragment.{sizes}
use Rattle.media_model.specs.WritingOrder.{writing_order}
use Rattle.flat_clip.specs.Tracks.{placed_view}
use Rattle.flat_clip.proofs.placed.placed_samples.Given as goal

abbrev pub invariant-loop-row : goal.invariant-loop-row
invariant-loop-row l = record {
  samples : map placed_view l.standing.samples.items ++ placed_from l.standing.place (writing_order (drop l.row-index l.video) l.left)
      ≡ placed_from l.start (writing_order l.video l.audio);
  place : l.standing.place + sizes (drop l.row-index l.video) + sizes l.left ≡ l.start + sizes l.video + sizes l.audio;
}
