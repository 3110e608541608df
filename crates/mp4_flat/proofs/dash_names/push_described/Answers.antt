use Rattle.std.proofs.Common.{◌≡◌, ℕ, refl, sym, ap, ◌∙◌, ◌++◌, append-nil, arith}
use Rattle.std.specs.Prelude.{flat_map}
use Rattle.std.specs.List.{range_with_len}
use Rattle.mp4_flat.specs.Packed.{described_leaves}
use Rattle.mp4_flat.proofs.NameLemmas.{numbered_more}
use Rattle.mp4_flat.proofs.dash_names.push_described.Goals as goal

pub loop-before-init : goal.loop-before-init
loop-before-init c = record { put = sym (append-nil c.args.names.now.items); each = λ all. all }

pub loop-before-preserved : goal.loop-before-preserved
loop-before-preserved c = record {
  put = numbered_more (described_leaves c.args.periods.now) c.loop-before.before _ c.args.names.now.items _ _ refl c.loop-before.invariant.put c.in_ok-push_sequence.ensures.names;
  each = λ all. c.in_ok-push_sequence.ensures.each (c.loop-before.invariant.each all);
}

pub returns-clause-names : goal.returns-clause-names
returns-clause-names c =
    let all : c.loop-before.before ≡ c.args.sequences = omega arith in
    c.loop-before.invariant.put ∙ ap (λ (n : ℕ). c.args.names.now.items ++ flat_map (described_leaves c.args.periods.now) (range_with_len 1 n)) all
