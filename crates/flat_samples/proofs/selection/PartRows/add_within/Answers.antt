use Rattle.std.proofs.Common.{◌≡◌, ◌^◌, length, map, get_or, pos, ◌≤ℤ◌, w64, to_z, of_z, subst, sym, ◌∙◌, arith}
use Rattle.std.proofs.lemmas.Int.{ints}
use Rattle.std.proofs.lemmas.List.Elements.{All-drop, All-same, All-take}
use Rattle.std.proofs.lemmas.Result.{on_ok_weaker}
use Rattle.flat_samples.specs.Rows.{timed_view, part_rows, IsFileRow, ArePlacedRows}
use Rattle.flat_samples.proofs.ListViews.{abs_bounds, slice_range-map}
use Rattle.flat_samples.proofs.Selected.{none_added, both_added, file_row_at, no_sample, rows_added-placed, selected_index}
use Rattle.flat_samples.proofs.selection.PartRows.add_within.Goals as goal

pub returns-in_default-clause-rows : goal.returns-in_default-clause-rows
returns-in_default-clause-rows c =
    let window = c.args.window.now in
    none_added (part_rows c.args.self.now) window.file window.base window.from window.hi c.args.lead.now (map timed_view c.args.other.now) (sym c.first_sync.ensures ∙ c.in_default.is)

pub add-requires-clause-rows : goal.add-requires-clause-rows
add-requires-clause-rows c =
    All-same IsFileRow _ _ (slice_range-map timed_view c.in-Some.i (length c.args.lead.now) c.args.lead.now) (All-take IsFileRow _ _ (All-drop IsFileRow c.in-Some.i (map timed_view c.args.lead.now) c.requires.lead))

pub returns-clause-rows : goal.returns-clause-rows
returns-clause-rows c =
    let window = c.args.window.now in
    let samples = c.args.lead.now in
    let i = c.in-Some.i in
    let found = sym c.first_sync.ensures ∙ c.in-Some.is in
    let first = file_row_at samples i no_sample (selected_index window.from window.hi samples i found) c.requires.lead in
    let low : pos 0 ≤ℤ (get_or samples i no_sample).place = first.low in
    let high : (get_or samples i no_sample).place ≤ℤ pos (2 ^ 41) = first.high in
    let small = abs_bounds window.base (2 ^ 41) c.requires.base in
    let base : to_z w64 (of_z w64 window.base) ≡ window.base = omega (arith, ints, small.0, small.1) in
    let place : to_z w64 (of_z w64 (get_or samples i no_sample).place) ≡ (get_or samples i no_sample).place = omega (arith, ints, low, high) in
    on_ok_weaker c.add-2.result
    (λ h. both_added (part_rows c.args.self.now) window.file window.base window.from window.hi samples i found no_sample (map timed_view c.args.other.now) _ _ c.in_ok-add.ensures.rows h)
    (rw (base, place) at c.add-2.ensures.rows)

pub returns-clause-placed : goal.returns-clause-placed
returns-clause-placed c =
    let window = c.args.window.now in
    on_ok_weaker c.add-2.result
    (λ h. subst ArePlacedRows (sym h) (rows_added-placed (part_rows c.args.self.now) window.file window.base window.from window.hi (map timed_view c.args.lead.now) (map timed_view c.args.other.now) c.requires.base c.requires.lead c.requires.other c.requires.placed))
    (returns-clause-rows c)
