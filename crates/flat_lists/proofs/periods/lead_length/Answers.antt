use Rattle.std.proofs.Common.{◌≤◌, ◌^◌, ℕ, map, All, rules, sym, subst}
use Rattle.flat_samples.specs.Rows.{IsPlacedRow, timed_view}
use Rattle.flat_lists.proofs.CountLemmas.{length_short}
use Rattle.flat_lists.proofs.periods.lead_length.Goals as goal

pub returns-in-Some-clause-short : goal.returns-in-Some-clause-short
returns-in-Some-clause-short c =
    let placed : All IsPlacedRow (map timed_view c.deref.result.now) = search rules in
    subst (λ (n : ℕ). n ≤ 2 ^ 41) (sym c.track_length.ensures) (length_short c.args.part.now (map timed_view c.deref.result.now) c.requires.part placed)
