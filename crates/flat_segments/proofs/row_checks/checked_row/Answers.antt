use Rattle.std.proofs.Common.{rules, refl, map, w64, sym, ◌∙◌}
use Rattle.std.proofs.lemmas.Int.{to_z-of_z}
use Rattle.segment_model.specs.Rows.{written_row}
use Rattle.media_model.specs.WritingOrder.{of_track}
use Rattle.flat_segments.specs.RowFaults.{shown}
use Rattle.flat_segments.specs.Segments.{facts_of}
use Rattle.flat_segments.proofs.RowFaults.{row_fault-long, row_fault-out, row_fault-back, row_fault-none}
use Rattle.flat_segments.proofs.row_checks.checked_row.Goals as goal

pub returns-then-sample-greatest_size-clause-refused : goal.returns-then-sample-greatest_size-clause-refused
unfolding written_row
returns-then-sample-greatest_size-clause-refused c =
    λ other. rw (c.too_long.ensures other, c.name_of.ensures)
    (row_fault-long c.args.form (map facts_of c.args.files.now) (of_track c.args.kind (shown c.args.form c.args.sample.now)) (rw c.greatest_size.ensures at c.if-sample-greatest_size.true))

pub returns-then-not-fits-clause-refused : goal.returns-then-not-fits-clause-refused
unfolding written_row
returns-then-not-fits-clause-refused c =
    λ other. rw (c.out_of_file.ensures other, c.name_of-then-not-fits.ensures)
    (row_fault-out c.args.form (map facts_of c.args.files.now) (of_track c.args.kind (shown c.args.form c.args.sample.now)) (rw c.greatest_size.ensures at c.if-sample-greatest_size.false)
    (rw c.size_of.ensures at (c.fits.ensures.beyond c.if-not-fits.true)))

pub returns-then-is_backward-clause-refused : goal.returns-then-is_backward-clause-refused
unfolding written_row
returns-then-is_backward-clause-refused c =
    λ other. rw (c.backward.ensures other, c.name_of-then-is_backward.ensures)
    (row_fault-back c.args.form (map facts_of c.args.files.now) (of_track c.args.kind (shown c.args.form c.args.sample.now)) (rw c.greatest_size.ensures at c.if-sample-greatest_size.false)
    (rw c.size_of.ensures at (c.fits.ensures.within c.if-not-fits.false)) (sym (c.is_backward.ensures c.args.kind) ∙ c.if-is_backward.true))

pub returns-clause-row : goal.returns-clause-row
unfolding written_row
returns-clause-row c =
    rw (c.from.ensures, c.min.ensures, to_z-of_z w64 c.decode_time.result (search rules), c.decode_time.ensures, to_z-of_z w64 c.args.sample.now.presentation (search rules)) refl

pub returns-clause-sound : goal.returns-clause-sound
unfolding written_row
returns-clause-sound c =
    row_fault-none c.args.form (map facts_of c.args.files.now) (of_track c.args.kind (shown c.args.form c.args.sample.now)) (rw c.greatest_size.ensures at c.if-sample-greatest_size.false)
    (rw c.size_of.ensures at (c.fits.ensures.within c.if-not-fits.false)) (sym (c.is_backward.ensures c.args.kind) ∙ c.if-is_backward.false)
