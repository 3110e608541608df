use Rattle.std.proofs.Common.{◌≡◌, ◌≤◌, map, take}
use Rattle.std.specs.List.{concat}
use Rattle.vod_source.specs.Told.{told_with}
use Rattle.vod_app.proofs.lines.put_all.Given as goal

abbrev pub invariant-loop-piece : goal.invariant-loop-piece
invariant-loop-piece g l = record {
  kept : g.K.Sink.kept l.sink ≡ g.K.Sink.kept l.fn.sink;
  later : g.K.Sink.faults l.fn.sink ≤ g.K.Sink.faults l.sink;
  written : g.K.Sink.written l.sink ≡ told_with (g.K.Sink.written l.fn.sink) (concat (take l.piece-index (map (λ piece. piece.now) l.pieces)));
}
