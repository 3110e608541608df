use Rattle.std.proofs.Common.{◌≡◌, ◌++◌, ◌+◌, drop, map}
use Rattle.media_model.specs.Clip.{placed_from}
use Rattle.media_model.specs.Fragment.{sizes}
use Rattle.media_model.specs.WritingOrder.{of_track}
use Rattle.flat_clip.specs.Tracks.{placed_view}
use Rattle.flat_clip.proofs.placed.Standing.add_all.Given as goal

abbrev pub invariant-loop-row : goal.invariant-loop-row
invariant-loop-row l = record {
  samples : map placed_view l.self.samples.items ++ placed_from l.self.place (map (of_track l.kind) (drop l.row-index l.rows))
      ≡ map placed_view l.fn.self.samples.items ++ placed_from l.fn.self.place (map (of_track l.kind) l.rows);
  place : l.self.place + sizes (drop l.row-index l.rows) ≡ l.fn.self.place + sizes l.rows;
}
