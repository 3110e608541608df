use Rattle.list_model.specs.Pack.{is_listed_of}
use Rattle.mp4_flat.specs.Packed.{rep_fragments}
use Rattle.mp4_flat.proofs.NameLemmas.{kept_item}
use Rattle.mp4_flat.proofs.dash_names.push_rep_fragments.Goals as goal

pub loop-rep-preserved : goal.loop-rep-preserved
loop-rep-preserved c = record {
  put = kept_item c.args.reps.now c.loop-rep.rep-index c.rep-item.result c.args.names.now.items _ _ c.loop-rep-test.true c.rep-item.is
      (is_listed_of c.args.sequence c.args.kind) (rep_fragments c.args.sequence c.args.kind) c.loop-rep.invariant.put c.in_ok-push_rep.ensures.names;
  each = λ all. c.in_ok-push_rep.ensures.each (c.loop-rep.invariant.each all);
}
