use Rattle.std.proofs.Common.{◌≤◌, List, length, filter, sym, ap, ◌∙◌, ◌++◌, append-nil, arith}
use Rattle.std.specs.Prelude.{flat_map}
use Rattle.std.proofs.lemmas.List.{take_all}
use Rattle.list_model.specs.declared.Period.{Period}
use Rattle.list_model.specs.Pack.{fragment_leaves, is_listed_of}
use Rattle.mp4_flat.specs.Packed.{rep_fragments}
use Rattle.mp4_flat.proofs.NameLemmas.{joined_item}
use Rattle.mp4_flat.proofs.dash_names.push_fragments.Goals as goal

pub loop-period-init : goal.loop-period-init
loop-period-init c = record { put = sym (append-nil c.args.names.now.items); each = λ all. all }

pub loop-period-preserved : goal.loop-period-preserved
loop-period-preserved c = record {
  put = joined_item c.args.periods.now c.loop-period.period-index c.period-item.result c.args.names.now.items _ _ c.loop-period-test.true c.period-item.is
      (λ period. flat_map (rep_fragments c.args.sequence c.args.kind) (filter (is_listed_of c.args.sequence c.args.kind) period.reps)) c.loop-period.invariant.put
      c.in_ok-push_period_fragments.ensures.names;
  each = λ all. c.in_ok-push_period_fragments.ensures.each (c.loop-period.invariant.each all);
}

pub returns-clause-names : goal.returns-clause-names
returns-clause-names c =
    let past : length c.args.periods.now ≤ c.loop-period.period-index = omega arith in
    c.loop-period.invariant.put ∙ ap (λ (periods : List Period). c.args.names.now.items ++ fragment_leaves c.args.sequence c.args.kind periods) (take_all c.loop-period.period-index c.args.periods.now past)
