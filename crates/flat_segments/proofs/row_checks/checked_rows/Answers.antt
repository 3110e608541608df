use Rattle.std.proofs.Common.{◌≡◌, ℕ, ◌+◌, Ok, map, sym, ap, ◌∙◌}
use Rattle.flat_segments.specs.RowFaults.{begins_in, rows_in}
use Rattle.flat_segments.specs.Segments.{facts_of}
use Rattle.flat_segments.proofs.DueRows.{due-front, due-row, due-bytes, due-rows}
use Rattle.flat_segments.proofs.row_checks.checked_rows.Goals as goal

-- sums of equal numbers
cong_sum : {a b x y : ℕ} → a ≡ x → b ≡ y → a + b ≡ x + y
cong_sum e f = cc

pub returns-in-Err-clause-answers : goal.returns-in-Err-clause-answers
returns-in-Err-clause-answers c = λ pieces kept other.
    due-front c.args.number c.args.form c.args.asked pieces _ _ (kept ∙ ap (map facts_of) (sym c.deref.ensures.value)) c.in-Err.refusal (c.in-Err.ensures.answers other)

pub returns-in-Err-written_rows-clause-answers : goal.returns-in-Err-written_rows-clause-answers
returns-in-Err-written_rows-clause-answers c = λ pieces kept other.
    due-row c.args.number c.args.form c.args.asked pieces _ _ kept c.in-Ok.field-0 (rw c.deref.ensures.value at c.in-Ok.ensures.answers)
    c.samples_of.result.now c.samples_of-2.result.now c.samples_of.ensures c.samples_of-2.ensures c.in-Err-written_rows.refusal
    (rw c.deref-2.ensures.value at (c.in-Err-written_rows.ensures.refused other))

pub returns-then-bytes-gt2130706432-clause-answers : goal.returns-then-bytes-gt2130706432-clause-answers
returns-then-bytes-gt2130706432-clause-answers c = λ pieces kept other.
    due-bytes c.args.number c.args.form c.args.asked pieces _ _ kept c.in-Ok.field-0 (rw c.deref.ensures.value at c.in-Ok.ensures.answers)
    c.samples_of.result.now c.samples_of-2.result.now c.samples_of.ensures c.samples_of-2.ensures
    c.in-Ok-written_rows.written.video.items c.in-Ok-written_rows.written.audio.items c.in-Ok-written_rows.ensures.video c.in-Ok-written_rows.ensures.audio
    (rw c.deref-2.ensures.value at c.in-Ok-written_rows.ensures.sound)
    (c.bytes_of.result + c.bytes_of-2.result) (rw (← c.deref-3.ensures.value, ← c.deref-4.ensures.value) (cong_sum c.bytes_of.ensures.bytes c.bytes_of-2.ensures.bytes)) c.if-bytes-gt2130706432.true

pub returns-clause-answers : goal.returns-clause-answers
returns-clause-answers c = λ pieces kept.
    due-rows c.args.number c.args.form c.args.asked pieces _ _ kept c.in-Ok.field-0 (rw c.deref.ensures.value at c.in-Ok.ensures.answers)
    c.samples_of.result.now c.samples_of-2.result.now c.samples_of.ensures c.samples_of-2.ensures
    c.in-Ok-written_rows.written.video.items c.in-Ok-written_rows.written.audio.items c.in-Ok-written_rows.ensures.video c.in-Ok-written_rows.ensures.audio
    (rw c.deref-2.ensures.value at c.in-Ok-written_rows.ensures.sound)
    (c.bytes_of.result + c.bytes_of-2.result) (rw (← c.deref-3.ensures.value, ← c.deref-4.ensures.value) (cong_sum c.bytes_of.ensures.bytes c.bytes_of-2.ensures.bytes)) c.if-bytes-gt2130706432.false
    ∙ ap (λ hevc. Ok (record {
      hevc = hevc;
      rows = rows_in (map facts_of c.args.files.items) c.in-Ok-written_rows.written.video.items c.in-Ok-written_rows.written.audio.items;
    })) (ap (λ files. begins_in (map facts_of files)) (sym c.deref-5.ensures.value) ∙ sym c.begins_with_hevc.ensures)
