use Rattle.std.proofs.Common.{◌≡◌, ◌-◌, ◌≤◌, length, take, drop, sym, ap, ◌∙◌, arith, rules, FitsSigned, w64}
use Rattle.std.proofs.lemmas.Int.{to_z-of_z}
use Rattle.std.proofs.lemmas.List.{drop_all}
use Rattle.vod_types.specs.Lists.{from_first}
use Rattle.seq_cells.specs.Cells.{piece_ends_after}
use Rattle.seq_cells.proofs.places.ending_after.Goals as goal

pub returns-clause-pieces : goal.returns-clause-pieces
returns-clause-pieces c =
    let pieces = c.args.pieces.now in
    let fits : FitsSigned w64 c.args.time = search rules in
    let none : length pieces - length pieces ≡ 0 = omega arith in
    let past : length pieces ≤ c.loop-place.place = omega arith in
    ap (λ n. take n (drop (length pieces) pieces)) none
    ∙ sym (ap (from_first (piece_ends_after c.args.time)) (drop_all c.loop-place.place pieces past)) ∙ (simp to_z-of_z at c.loop-place.invariant.left)
