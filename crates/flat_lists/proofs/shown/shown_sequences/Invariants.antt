use Rattle.std.proofs.Common.{◌≡◌, ◌≤◌, ◌-◌, length, All, IfSome}
use Rattle.std.specs.List.{range_with_len}
use Rattle.flat_lists.specs.Asked.{asking_view, setup_of}
use Rattle.flat_lists.specs.Shown.{IsShown, first_names, shown_due}
use Rattle.flat_lists.specs.Steps.{IsPath}
use Rattle.flat_lists.proofs.shown.shown_sequences.Given as goal

abbrev pub invariant-loop-sequence : goal.invariant-loop-sequence
invariant-loop-sequence g l = record {
  content : g.S.Store.content l.files ≡ g.S.Store.content l.fn.files;
  later : g.S.Store.faults l.fn.files ≤ g.S.Store.faults l.files;
  shown : All (IsShown (length l.asking.mapping.sequences)) l.all.items;
  path : IfSome (g.S.Store.content l.fn.files) (λ known.
      IsPath known (shown_due (setup_of l.settings l.root known) (asking_view l.asking)) (first_names (setup_of l.settings l.root known) (asking_view l.asking))
      (range_with_len 1 (length l.asking.mapping.sequences)) (range_with_len l.sequence (l.end - l.sequence)) l.movies l.all.items (g.S.Store.log l.fn.files) (g.S.Store.log l.files));
}
