use Rattle.std.proofs.Common.{◌∙◌, ap, arith, rules, pos, ◌-ℤ◌, w64, FitsSigned}
use Rattle.std.specs.Prelude.{option_map}
use Rattle.std.proofs.lemmas.Int.{ints, clamps, to_z-of_z}
use Rattle.clip_model.specs.Trim.{units, lesser_end}
use Rattle.seq_timeline.proofs.PieceLemmas.{windowed_by_fields}
use Rattle.seq_timeline.proofs.pieces.windowed.Goals as goal

pub returns : goal.returns
returns c =
    let p = c.args.piece in
    let w = c.args.window in
    let fits : FitsSigned w64 p.base = search rules in
    windowed_by_fields w p _ _ c.lesser_end-hi.result (omega (arith, ints, c.units-from.ensures)) (omega (arith, ints, clamps, c.units-from.ensures, c.max-lo.ensures.value))
    (c.lesser_end-hi.ensures ∙ ap (lesser_end p.hi) (c.end_in_file.ensures ∙ ap (λ b. option_map (λ t. units (pos t) -ℤ b) w.to) (to_z-of_z w64 p.base fits)))
