use Rattle.std.proofs.Common.{◌≡◌, ◌+◌, ◌<◌, ℕ, false, eqb, length, take, get_or}
use Rattle.std.specs.Prelude.{◌||◌}
use Rattle.std.specs.List.{list_any}
use Rattle.mp4_tables.specs.Views.{stss_entries}
use Rattle.flat_samples.proofs.tables.mark_syncs.Given as goal

abbrev pub invariant-loop-i : goal.invariant-loop-i
invariant-loop-i g l = (k : ℕ) → k < length l.fn.flags → get_or l.flags k false ≡ (get_or l.fn.flags k false || list_any (λ n. eqb n (k + 1)) (take l.i (stss_entries l.table)))
