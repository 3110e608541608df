use Rattle.std.proofs.Common.{◌≡◌, ◌^◌, map, w64, to_z, of_z, ap, sym, ◌∙◌, arith}
use Rattle.std.proofs.lemmas.Int.{ints}
use Rattle.std.proofs.lemmas.Result.{on_ok_weaker}
use Rattle.flat_samples.specs.Checks.{checked_view}
use Rattle.flat_samples.specs.Rows.{timed_view, part_rows}
use Rattle.flat_samples.proofs.ListViews.{abs_bounds}
use Rattle.mp4_tracks.proofs.FaultLemmas.{is_some-option_map}
use Rattle.flat_samples.proofs.Selected.{added-video, added-audio}
use Rattle.flat_samples.proofs.selection.PartRows.add.Goals as goal

pub returns-then-is_some-clause-rows : goal.returns-then-is_some-clause-rows
returns-then-is_some-clause-rows c =
    let piece = c.args.piece.now in
    let base_small = abs_bounds piece.base (2 ^ 41) c.requires.piece.base in
    let lo_small = abs_bounds piece.lo (2 ^ 41) c.requires.piece.lo in
    let base : to_z w64 (of_z w64 piece.base) ≡ piece.base = omega (arith, ints, base_small.0, base_small.1) in
    let lo : to_z w64 (of_z w64 piece.lo) ≡ piece.lo = omega (arith, ints, lo_small.0, lo_small.1) in
    on_ok_weaker c.add_within.result
    (λ h. h ∙ added-video (part_rows c.args.self.now) c.args.file (checked_view piece c.args.tracks.now) _ _ (is_some-option_map _ c.args.tracks.now.video ∙ sym c.is_some.ensures ∙ c.if-is_some.true)
    (ap (map timed_view) c.deref.ensures.value ∙ c.in_ok-video.ensures.rows) (ap (map timed_view) c.deref-then-is_some.ensures.value ∙ c.in_ok-audio.ensures.rows))
    (rw (base, lo) at c.add_within.ensures.rows)

pub returns-clause-rows : goal.returns-clause-rows
returns-clause-rows c =
    let piece = c.args.piece.now in
    let base_small = abs_bounds piece.base (2 ^ 41) c.requires.piece.base in
    let lo_small = abs_bounds piece.lo (2 ^ 41) c.requires.piece.lo in
    let base : to_z w64 (of_z w64 piece.base) ≡ piece.base = omega (arith, ints, base_small.0, base_small.1) in
    let lo : to_z w64 (of_z w64 piece.lo) ≡ piece.lo = omega (arith, ints, lo_small.0, lo_small.1) in
    on_ok_weaker c.add_within-else-is_some.result
    (λ h. h ∙ added-audio (part_rows c.args.self.now) c.args.file (checked_view piece c.args.tracks.now) _ (is_some-option_map _ c.args.tracks.now.video ∙ sym c.is_some.ensures ∙ c.if-is_some.false)
    (ap (map timed_view) c.deref-else-is_some.ensures.value ∙ c.in_ok-audio.ensures.rows))
    (rw (base, lo) at c.add_within-else-is_some.ensures.rows)
