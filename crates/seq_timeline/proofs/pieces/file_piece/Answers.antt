use Rattle.std.proofs.Common.{◌≡◌, Some, ◌∙◌, ap, arith, pos, ◌-ℤ◌, ◌+◌, w64, to_z, of_z}
use Rattle.std.specs.Prelude.{option_map}
use Rattle.std.proofs.lemmas.Int.{ints, clamps}
use Rattle.clip_model.specs.Trim.{units, lesser_end}
use Rattle.clip_map.specs.Views.{file_view}
use Rattle.seq_timeline.proofs.PieceLemmas.{file_by_fields}
use Rattle.seq_timeline.proofs.pieces.file_piece.Goals as goal

pub returns-clause-piece : goal.returns-clause-piece
returns-clause-piece c =
    let p = c.args.placed.now in
    let d = c.args.file.now.duration in
    let base : to_z w64 (of_z w64 c.units-base.result) ≡ units c.args.at = omega (arith, ints, c.units-base.ensures) in
    let duration : to_z w64 (of_z w64 c.units-duration.result) ≡ units (pos d) = omega (arith, ints, c.units-duration.ensures, c.from.ensures) in
    file_by_fields c.args.root.now c.args.tracks c.args.part p.start p.length (file_view c.args.file.now) c.args.at c.in_ok-store_name.field-0 _ _ c.lesser_end.result
    c.in_ok-store_name.ensures.name
    (omega (arith, ints, c.units-base.ensures))
    (omega (arith, ints, clamps, c.max.ensures.value, c.units.ensures, c.units-base.ensures))
    (
    c.lesser_end.ensures
    ∙ ap (λ z. lesser_end (Some z) c.clip_end_in_file-clip_end.result) duration
    ∙ ap (lesser_end (Some (units (pos d)))) (c.clip_end_in_file-clip_end.ensures ∙ ap (λ z. option_map (λ n. units (pos (p.start + n)) -ℤ z) p.length) base)
    )
