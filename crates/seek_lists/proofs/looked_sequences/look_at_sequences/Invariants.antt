-- So many sequences were looked at.
use Rattle.std.proofs.Common.{◌≡◌, ◌≤◌, length, map, drop, IfSome, All}
use Rattle.flat_lists.specs.Asked.{asking_view, setup_of}
use Rattle.flat_lists.specs.LookedSequences.{numbers, sequence_found, sequence_kept, sequence_names}
use Rattle.vod_meta.specs.Held.{names_held, AreTrue}
use Rattle.seek_lists.specs.Looked.{IsOfMapping, sequence_seen}
use Rattle.seek_lists.proofs.Tours.{IsListWalk}
use Rattle.seek_lists.proofs.looked_sequences.look_at_sequences.Given as goal

abbrev pub invariant-loop-place : goal.invariant-loop-place
invariant-loop-place g l = record {
  content : g.S.Store.content l.store ≡ g.S.Store.content l.fn.store;
  later : g.S.Store.faults l.fn.store ≤ g.S.Store.faults l.store;
  held : IfSome (g.S.Store.content l.store) (λ known. AreTrue known l.metas);
  each : All (IsOfMapping l.asking.mapping) l.looked.items;
  count : length l.looked.items ≡ l.place;
  walk : IfSome (g.S.Store.content l.fn.store) (λ known.
      IsListWalk known (sequence_found (setup_of l.settings l.root known) (asking_view l.asking)) (sequence_names (setup_of l.settings l.root known) (asking_view l.asking)) (sequence_kept l.asking.mapping)
      (numbers (setup_of l.settings l.root known) (asking_view l.asking)) (drop l.place (numbers (setup_of l.settings l.root known) (asking_view l.asking))) (map sequence_seen l.looked.items) (names_held l.fn.metas) (names_held l.metas)
      (g.S.Store.log l.fn.store) (g.S.Store.log l.store));
}
