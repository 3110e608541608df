-- The row as a fragment has it.
use Rattle.std.proofs.Common.{rules, ◌≡◌, ℕ, ℤ, ◌+ℤ◌, SFits, min, to_z, of_z, w64, arith, refl, sym, ap, ◌∙◌}
use Rattle.std.proofs.lemmas.Int.{ints, to_z-of_z}
use Rattle.vod_types.specs.declared.segments.Form.TheVariants.{Fmp4}
use Rattle.vod_types.specs.declared.segments.Row.{Row}
use Rattle.segment_model.specs.Rows.{TimedRow}
use Rattle.vod_plan.specs.Dues.{due_view}
use Rattle.vod_plan.proofs.DueLemmas.{shown_dts}
use Rattle.vod_plan.proofs.TimeLemmas.{row-is}
use Rattle.vod_plan.proofs.piece_rows.row_of.Goals as goal

pub returns : goal.returns
returns c =
    let d = c.args.due.now in
    let r : TimedRow = due_view d in
    let due = c.requires.due in
    let fits : SFits w64 c.decode_time.result = search rules in
    let dts : ℤ = to_z w64 (of_z w64 c.decode_time.result) in
    let pts : ℤ = to_z w64 (of_z w64 (to_z w64 (of_z w64 d.base) +ℤ to_z w64 (of_z w64 d.sample.presentation))) in
    let shown : pts ≡ d.base +ℤ d.sample.presentation = omega (arith, ints, due.base, due.small.presentation) in
    let of_file : ℕ → Row = λ file. record { file = file; number = d.sample.number; sample = record { at = d.sample.offset; size = d.sample.size; dts = dts; pts = pts; dur = c.min.result; sync = d.sample.sync } } in
    ap of_file (sym c.requires.first)
    ∙ row-is Fmp4 r d.sample.number c.min.result dts pts refl
    (to_z-of_z w64 c.decode_time.result fits ∙ c.decode_time.ensures ∙ sym (shown_dts Fmp4 d))
    shown
    (c.min.ensures ∙ ap (λ (n : ℕ). min d.sample.duration n) c.from.ensures)
