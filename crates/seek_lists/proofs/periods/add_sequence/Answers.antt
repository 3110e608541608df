-- One more, or all.
use Rattle.std.proofs.Common.{◌≡◌, ◌+◌, ◌++◌, Some, None, List, OnOk, length, take, refl, sym, ap, ◌∙◌, subst, arith, append-nil}
use Rattle.std.specs.Prelude.{slice_get, sum_by}
use Rattle.std.proofs.lemmas.Bool.{ltb-true, ltb-false}
use Rattle.std.proofs.lemmas.Option.{slice_get_past, slice_get_read}
use Rattle.list_model.specs.declared.Rep.{Rep}
use Rattle.flat_lists.specs.Written.{declared_cells}
use Rattle.seek_lists.specs.declared.looked_sequences.LookedPart.{LookedPart}
use Rattle.seek_lists.proofs.PeriodLemmas.{before_few, reps_nowhere, reps_there}
use Rattle.seek_lists.proofs.periods.add_sequence.Goals as goal

pub overflow_cast-own : goal.overflow_cast-own
overflow_cast-own g c =
    let few = before_few c.args.writing.grid.now c.args.sequence.now.parts.items c.args.place c.requires.cells in
    let same = c.first_cell_behind.ensures ∙ ap (λ (ps : List LookedPart). 1 + sum_by (λ p. declared_cells c.args.writing.grid.now p.part) (take c.args.place ps)) c.deref-in-Some.ensures.value in
    omega (arith, few, same)

pub add_reps-requires-clause-numbers : goal.add_reps-requires-clause-numbers
add_reps-requires-clause-numbers g c =
    let few = before_few c.args.writing.grid.now c.args.sequence.now.parts.items c.args.place c.requires.cells in
    let same = c.first_cell_behind.ensures ∙ ap (λ (ps : List LookedPart). 1 + sum_by (λ p. declared_cells c.args.writing.grid.now p.part) (take c.args.place ps)) c.deref-in-Some.ensures.value in
    omega (arith, few, same)

pub returns-in-Some-clause-reps : goal.returns-in-Some-clause-reps
returns-in-Some-clause-reps g c =
    let items = c.deref.result.now in
    let here : slice_get items c.args.place ≡ Some c.in-Some.part.now = slice_get_read items (length items) c.args.place c.in-Some.part.now refl (ltb-true c.args.place (length items) (sym c.in-Some.ensures.lookup.0)) c.in-Some.ensures.lookup.1 in
    let there : slice_get c.args.sequence.now.parts.items c.args.place ≡ Some c.in-Some.part.now = subst (λ (ps : List LookedPart). slice_get ps c.args.place ≡ Some c.in-Some.part.now) c.deref.ensures.value here in
    let same = c.first_cell_behind.ensures ∙ ap (λ (ps : List LookedPart). 1 + sum_by (λ p. declared_cells c.args.writing.grid.now p.part) (take c.args.place ps)) c.deref-in-Some.ensures.value in
    subst (λ (reps : List Rep). OnOk c.add_reps.result (c.add_reps.new.reps.items ≡ c.args.reps.now.items ++ reps))
    (reps_there c.args.writing.mapping.now c.args.writing.grid.now c.args.writing.align c.args.place c.args.sequence.now c.in-Some.part.now c.first_cell_behind.result there same) c.add_reps.ensures.reps

pub returns-in-None-clause-reps : goal.returns-in-None-clause-reps
returns-in-None-clause-reps g c =
    let items = c.deref.result.now in
    let nowhere : slice_get items c.args.place ≡ None = slice_get_past items c.args.place (ltb-false c.args.place (length items) (sym c.in-None.ensures.lookup.0)) in
    let none : slice_get c.args.sequence.now.parts.items c.args.place ≡ None = subst (λ (ps : List LookedPart). slice_get ps c.args.place ≡ None) c.deref.ensures.value nowhere in
    sym (append-nil c.args.reps.now.items)
    ∙ ap (λ (reps : List Rep). c.args.reps.now.items ++ reps) (sym (reps_nowhere c.args.writing.mapping.now c.args.writing.grid.now c.args.writing.align c.args.place c.args.sequence.now none))
