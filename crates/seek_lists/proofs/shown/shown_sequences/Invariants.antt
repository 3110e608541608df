-- So many sequences are shown, and the steps that are left give the others.
use Rattle.std.proofs.Common.{◌≡◌, ◌≤◌, ◌+◌, ◌-◌, ◌*◌, length, All, IfSome}
use Rattle.std.specs.List.{range_with_len}
use Rattle.flat_lists.specs.Asked.{asking_view, setup_of}
use Rattle.flat_lists.specs.Shown.{IsShown, first_names, shown_due}
use Rattle.vod_meta.specs.Held.{names_held, AreTrue}
use Rattle.seek_lists.specs.Ways.{IsWay}
use Rattle.seek_lists.proofs.shown.shown_sequences.Given as goal

abbrev pub invariant-loop-sequence : goal.invariant-loop-sequence
invariant-loop-sequence g l = record {
  content : g.S.Store.content l.store ≡ g.S.Store.content l.fn.store;
  later : g.S.Store.faults l.fn.store ≤ g.S.Store.faults l.store;
  held : IfSome (g.S.Store.content l.store) (λ known. AreTrue known l.metas);
  looks : l.steps ≤ l.fn.steps + 768 * (l.sequence - 1);
  first : 1 ≤ l.sequence;
  shown : All (IsShown (length l.asking.mapping.sequences)) l.all.items;
  way : IfSome (g.S.Store.content l.fn.store) (λ known.
      IsWay known (shown_due (setup_of l.settings l.root known) (asking_view l.asking)) (first_names (setup_of l.settings l.root known) (asking_view l.asking))
      (range_with_len 1 (length l.asking.mapping.sequences)) (range_with_len l.sequence (l.end - l.sequence)) l.all.items (names_held l.fn.metas) (names_held l.metas)
      (g.S.Store.log l.fn.store) (g.S.Store.log l.store));
}
