use Rattle.std.proofs.Common.{◌≡◌, ◌+◌, length}
use Rattle.media_model.specs.Fragment.{sizes}
use Rattle.vod_types.specs.SegmentRows.{rows_of, rows_left}
use Rattle.fmp4_writer.proofs.front.sizes.Given as goal

abbrev pub invariant-loop-row : goal.invariant-loop-row
invariant-loop-row g l =
    record {
      rows : g.R.Rows.rows l.rows ≡ g.R.Rows.rows l.fn.rows;
      total : l.total + sizes (rows_left l.kind (g.R.Rows.rows l.rows) (g.R.Rows.places l.rows)) ≡ sizes (rows_of l.kind (g.R.Rows.rows l.fn.rows));
    }

abbrev pub decreases-loop-row : goal.decreases-loop-row
decreases-loop-row g l = length (rows_left l.kind (g.R.Rows.rows l.rows) (g.R.Rows.places l.rows))
