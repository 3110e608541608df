use Rattle.std.proofs.Common.{◌≡◌, ◌≤◌, ◌++◌, false, take, All, IfSome}
use Rattle.flat_lists.specs.Asked.{asking_view, setup_of}
use Rattle.list_model.specs.Names.{IsLeafOf}
use Rattle.mp4_flat.specs.Packed.{shown_leaves}
use Rattle.mp4_flat.proofs.hls_names.push_sequences.Given as goal

abbrev pub invariant-loop-one : goal.invariant-loop-one
invariant-loop-one g l = record {
  content : g.S.Store.content l.files ≡ g.S.Store.content l.fn.files;
  later : g.S.Store.faults l.fn.files ≤ g.S.Store.faults l.files;
  told : IfSome (g.S.Store.content l.fn.files) (λ known.
      l.names.items ≡ l.fn.names.items ++ shown_leaves (setup_of l.settings l.root known) (asking_view l.asking) (take l.one-index l.shown));
  each : All (IsLeafOf false) l.fn.names.items → All (IsLeafOf false) l.names.items;
}
