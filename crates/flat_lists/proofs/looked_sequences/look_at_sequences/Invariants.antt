use Rattle.std.proofs.Common.{◌≡◌, ◌≤◌, length, map, drop, [], IfSome, All}
use Rattle.flat_lists.specs.Asked.{asking_view, setup_of}
use Rattle.flat_lists.specs.LookedSequences.{numbers, sequence_found, sequence_kept, sequence_names, sequence_seen}
use Rattle.flat_lists.specs.Written.{IsOfMapping}
use Rattle.flat_lists.proofs.Tours.{IsListWalk}
use Rattle.flat_lists.proofs.looked_sequences.look_at_sequences.Given as goal

abbrev pub invariant-loop-place : goal.invariant-loop-place
invariant-loop-place g l = record {
  content : g.S.Store.content l.files ≡ g.S.Store.content l.fn.files;
  later : g.S.Store.faults l.fn.files ≤ g.S.Store.faults l.files;
  each : All (IsOfMapping l.asking.mapping) l.looked.items;
  count : length l.looked.items ≡ l.place;
  walk : IfSome (g.S.Store.content l.fn.files) (λ known.
      IsListWalk known (sequence_found (setup_of l.settings l.root known) (asking_view l.asking)) (sequence_names (setup_of l.settings l.root known) (asking_view l.asking)) (sequence_kept l.asking.mapping)
      (numbers (setup_of l.settings l.root known) (asking_view l.asking)) (drop l.place (numbers (setup_of l.settings l.root known) (asking_view l.asking))) (map sequence_seen l.looked.items) [] l.movies
      (g.S.Store.log l.fn.files) (g.S.Store.log l.files));
}
