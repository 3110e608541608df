use Rattle.std.proofs.Common.{◌≡◌, ◌≤◌, ◌∷◌, ◌++◌, List, ℕ, length}
use Rattle.vod_types.specs.SegmentRows.{rows_left}
use Rattle.vod_source.specs.Told.{told_with}
use Rattle.media_model.specs.Fragment.{run_entries}
use Rattle.fmp4_writer.specs.Front.{IsRunFrom}
use Rattle.fmp4_writer.proofs.front.put_entries.Given as goal

abbrev pub invariant-loop-following : goal.invariant-loop-following
invariant-loop-following g l =
    record {
      rows : g.R.Rows.rows l.rows ≡ g.R.Rows.rows l.fn.rows;
      kept : g.K.Sink.kept l.sink ≡ g.K.Sink.kept l.fn.sink;
      run : IsRunFrom l.row (rows_left l.kind (g.R.Rows.rows l.rows) (g.R.Rows.places l.rows));
      done : List ℕ;
      written : g.K.Sink.written l.sink ≡ told_with (g.K.Sink.written l.fn.sink) done;
      others : run_entries (l.fn.first ∷ rows_left l.kind (g.R.Rows.rows l.fn.rows) (g.R.Rows.places l.fn.rows))
          ≡ done ++ run_entries (l.row ∷ rows_left l.kind (g.R.Rows.rows l.rows) (g.R.Rows.places l.rows));
      later : g.K.Sink.faults l.fn.sink ≤ g.K.Sink.faults l.sink;
    }

abbrev pub decreases-loop-following : goal.decreases-loop-following
decreases-loop-following g l = length (rows_left l.kind (g.R.Rows.rows l.rows) (g.R.Rows.places l.rows))
