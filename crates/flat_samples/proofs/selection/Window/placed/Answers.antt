use Rattle.std.proofs.Common.{◌≡◌, ◌^◌, ◌+ℤ◌, pos, ◌≤ℤ◌, w64, to_z, of_z, arith}
use Rattle.std.proofs.lemmas.Int.{ints}
use Rattle.flat_samples.proofs.ListViews.{abs_bounds}
use Rattle.flat_samples.proofs.Selected.{placed_as}
use Rattle.flat_samples.proofs.selection.Window.placed.Goals as goal

pub returns : goal.returns
returns c =
    let row = c.args.sample.now in
    let base = c.args.self.now.base in
    let start = abs_bounds base (2 ^ 41) c.requires.base in
    let shown = abs_bounds row.presentation (2 ^ 42) c.requires.row.presentation in
    let low : pos 0 ≤ℤ row.place = c.requires.row.low in
    let high : row.place ≤ℤ pos (2 ^ 41) = c.requires.row.high in
    let place : to_z w64 (of_z w64 (to_z w64 (of_z w64 base) +ℤ to_z w64 (of_z w64 row.place))) ≡ base +ℤ row.place = omega (arith, ints, start.0, start.1, low, high) in
    let presentation : to_z w64 (of_z w64 (to_z w64 (of_z w64 base) +ℤ to_z w64 (of_z w64 row.presentation))) ≡ base +ℤ row.presentation = omega (arith, ints, start.0, start.1, shown.0, shown.1) in
    placed_as row c.args.self.now.file base _ _ place presentation
