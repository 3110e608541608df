use Rattle.std.proofs.Common.{◌≡◌, ◌≤◌, IfSome, IsTrue}
use Rattle.vod_types.specs.SegmentRows.{sample_bytes}
use Rattle.vod_source.specs.Stored.{bytes_of}
use Rattle.media_model.specs.Fragment.{fragment}
use Rattle.fmp4_writer.specs.Progress.{is_under_way, AreLeft, rest_of}
use Rattle.fmp4_writer.proofs.StepLemmas.{IsUnderWay, all_reads, reads_left, steps_left}
use Rattle.fmp4_writer.proofs.whole.write_fragment.Given as goal

abbrev pub invariant-steps : goal.invariant-steps
invariant-steps g l =
    let rows = g.R.Rows.rows l.fn.rows in
    record {
      under_way : IsTrue (is_under_way l.writing);
      left : AreLeft l.writing rows (g.R.Rows.places l.rows);
      same : g.R.Rows.rows l.rows ≡ rows;
      content : g.S.Store.content l.store ≡ g.S.Store.content l.fn.store;
      written : IfSome (g.S.Store.content l.fn.store) (λ known. IsUnderWay (g.K.Sink.written l.fn.sink) (g.K.Sink.written l.sink)
          (fragment l.number (sample_bytes (bytes_of known) rows) rows.video rows.audio)
          (rest_of (sample_bytes (bytes_of known) rows) l.writing rows (g.R.Rows.places l.rows)));
      log : IsUnderWay (g.S.Store.log l.fn.store) (g.S.Store.log l.store) (all_reads rows) (reads_left l.writing rows (g.R.Rows.places l.rows));
      kept : g.K.Sink.kept l.sink ≡ g.K.Sink.kept l.fn.sink;
      store_later : g.S.Store.faults l.fn.store ≤ g.S.Store.faults l.store;
      sink_later : g.K.Sink.faults l.fn.sink ≤ g.K.Sink.faults l.sink;
    }

abbrev pub decreases-steps : goal.decreases-steps
decreases-steps g l = steps_left l.writing (g.R.Rows.rows l.fn.rows)
