use Rattle.std.proofs.Common.{◌≡◌, ℕ, ◌-◌, ◌≤◌, List, IfSome}
use Rattle.vod_source.specs.Stored.{bytes_of}
use Rattle.vod_source.specs.Ranges.{of_file}
use Rattle.vod_source.specs.Told.{told_with}
use Rattle.mp4_source.specs.Sought.{IsWay}
use Rattle.mp4_source.proofs.seek.seek.Given as goal

abbrev pub invariant-loop-looked : goal.invariant-loop-looked
invariant-loop-looked g l =
    record {
      within : l.at ≤ l.file_size;
      content : g.S.Store.content l.store ≡ g.S.Store.content l.fn.store;
      reads : List (ℕ × ℕ);
      logged : g.S.Store.log l.store ≡ told_with (g.S.Store.log l.fn.store) (of_file l.name reads);
      way : IfSome (g.S.Store.content l.fn.store) (λ files. IsWay (bytes_of files l.name) (64 - l._looked) l.at reads);
      later : g.S.Store.faults l.fn.store ≤ g.S.Store.faults l.store;
    }
