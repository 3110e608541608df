use Rattle.std.proofs.Common.{◌≡◌, ◌≤◌, drop, IfSome}
use Rattle.flat_lists.specs.Asked.{asking_view, setup_of}
use Rattle.origin_model.specs.Answers.{leaf_answer}
use Rattle.mp4_flat.specs.Packed.{IsPackPath}
use Rattle.mp4_flat.proofs.packaging.put_names.Given as goal

abbrev pub invariant-loop-leaf : goal.invariant-loop-leaf
invariant-loop-leaf g l = record {
  content : g.S.Store.content l.files ≡ g.S.Store.content l.fn.files;
  kept : g.K.Sink.kept l.out ≡ g.K.Sink.kept l.fn.out;
  later : g.S.Store.faults l.fn.files ≤ g.S.Store.faults l.files;
  out_later : g.K.Sink.faults l.fn.out ≤ g.K.Sink.faults l.out;
  path : IfSome (g.S.Store.content l.fn.files) (λ known.
      IsPackPath l.dash (leaf_answer (setup_of l.settings l.root known) (asking_view l.asking)) l.leaves (drop l.leaf-index l.leaves) (g.K.Sink.written l.fn.out) (g.K.Sink.written l.out));
}
