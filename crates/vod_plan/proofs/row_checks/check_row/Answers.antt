-- A row's first fault.
use Rattle.std.proofs.Common.{map, sym, ◌∙◌, arith}
use Rattle.segment_model.specs.Rows.{written_row}
use Rattle.media_model.specs.WritingOrder.{of_track}
use Rattle.vod_plan.specs.Dues.{shown}
use Rattle.vod_plan.specs.RowFaults.{facts_of}
use Rattle.vod_plan.proofs.RowFaults.{row_fault-long, row_fault-out, row_fault-back, row_fault-none}
use Rattle.vod_plan.proofs.row_checks.check_row.Goals as goal

pub returns-then-due-greatest_size-clause-refused : goal.returns-then-due-greatest_size-clause-refused
unfolding written_row
returns-then-due-greatest_size-clause-refused c =
    λ other. rw (c.too_long.ensures.is other, c.name_of.ensures)
    (row_fault-long c.args.form (map facts_of c.args.pieces.now) (of_track c.args.kind (shown c.args.form c.args.due.now)) (rw c.greatest_size.ensures at c.if-due-greatest_size.true))

pub returns-then-not-fits-clause-refused : goal.returns-then-not-fits-clause-refused
unfolding written_row
returns-then-not-fits-clause-refused c =
    λ other. rw (c.out_of_file.ensures.is other, c.name_of-then-not-fits.ensures)
    (row_fault-out c.args.form (map facts_of c.args.pieces.now) (of_track c.args.kind (shown c.args.form c.args.due.now)) (rw c.greatest_size.ensures at c.if-due-greatest_size.false)
    (rw c.size_of.ensures at (c.fits.ensures.beyond c.if-not-fits.true)))

pub returns-then-is_backward-clause-refused : goal.returns-then-is_backward-clause-refused
unfolding written_row
returns-then-is_backward-clause-refused c =
    λ other. rw (c.backward.ensures.is other, c.name_of-then-is_backward.ensures)
    (row_fault-back c.args.form (map facts_of c.args.pieces.now) (of_track c.args.kind (shown c.args.form c.args.due.now)) (rw c.greatest_size.ensures at c.if-due-greatest_size.false)
    (rw c.size_of.ensures at (c.fits.ensures.within c.if-not-fits.false)) (sym (c.is_backward.ensures c.args.kind) ∙ c.if-is_backward.true))

pub returns-clause-sound : goal.returns-clause-sound
unfolding written_row
returns-clause-sound c =
    row_fault-none c.args.form (map facts_of c.args.pieces.now) (of_track c.args.kind (shown c.args.form c.args.due.now)) (rw c.greatest_size.ensures at c.if-due-greatest_size.false)
    (rw c.size_of.ensures at (c.fits.ensures.within c.if-not-fits.false)) (sym (c.is_backward.ensures c.args.kind) ∙ c.if-is_backward.false)

pub returns-clause-ends : goal.returns-clause-ends
unfolding written_row
returns-clause-ends c = let within = c.fits.ensures.within c.if-not-fits.false in omega (arith, within)
