use Rattle.std.proofs.Common.{◌-◌, ◌≡◌, ◌+◌, ◌≤◌, ◌++◌, List, IfSome}
use Rattle.vod_source.specs.Stored.{Read, bytes_at}
use Rattle.vod_source.specs.Ranges.{file_reads}
use Rattle.vod_source.specs.Told.{told_with, GrewByCount}
use Rattle.vod_source.proofs.ranges.copy_range.Given as goal

abbrev pub invariant-loop-done : goal.invariant-loop-done
invariant-loop-done g l =
    record {
      within : l.done ≤ l.n;
      content : g.S.Store.content l.store ≡ g.S.Store.content l.fn.store;
      kept : g.K.Sink.kept l.sink ≡ g.K.Sink.kept l.fn.sink;
      written : IfSome (g.S.Store.content l.fn.store) (λ files. g.K.Sink.written l.sink ≡ told_with (g.K.Sink.written l.fn.sink) (bytes_at files l.name l.at l.done));
      many : GrewByCount (g.K.Sink.written l.fn.sink) (g.K.Sink.written l.sink) l.done;
      reads : List Read;
      logged : g.S.Store.log l.store ≡ told_with (g.S.Store.log l.fn.store) reads;
      others : file_reads l.name l.at l.n ≡ reads ++ file_reads l.name (l.at + l.done) (l.n - l.done);
      store_later : g.S.Store.faults l.fn.store ≤ g.S.Store.faults l.store;
      sink_later : g.K.Sink.faults l.fn.sink ≤ g.K.Sink.faults l.sink;
    }

abbrev pub decreases-loop-done : goal.decreases-loop-done
decreases-loop-done g l = l.n - l.done
