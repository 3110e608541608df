-- The parts of `trak` of a track that has rows.
use Rattle.std.proofs.Common.{◌<◌, sym, ap, ◌∙◌, arith}
use Rattle.media_model.specs.Clip.{edits_size, track_size}
use Rattle.vod_plan.specs.Spans.{piece_view, rows_in}
use Rattle.mp4_clip.specs.Kept.{kept_lead, track_with_rows}
use Rattle.mp4_clip.proofs.StartLemmas.{given-none, given-some}
use Rattle.mp4_clip.proofs.sizes.given_size.Goals as goal

pub returns-then-rows-eq0-clause-size : goal.returns-then-rows-eq0-clause-size
returns-then-rows-eq0-clause-size g c =
    let p = c.args.rows.now in
    given-none c.args.kind p c.requires.rows (track_size c.args.kind (kept_lead p) (track_with_rows c.args.kind p)) (sym c.rows.ensures ∙ c.if-rows-eq0.true)

pub returns-clause-size : goal.returns-clause-size
returns-clause-size g c =
    let p = c.args.rows.now in
    let some : 0 < rows_in c.args.kind (piece_view p) = omega (arith, c.rows.ensures, c.if-rows-eq0.false) in
    let all = given-some c.args.kind p c.requires.rows c.rest_size-rest.result c.edits_size-edits.result c.entry_size-entry.result c.rows-2.result some c.rest_size-rest.ensures.size
    (c.edits_size-edits.ensures.size ∙ ap edits_size c.begins_after.ensures.after) c.entry_size-entry.ensures c.rows-2.ensures in
    omega (arith, all, c.from.ensures, c.from-2.ensures, c.from-3.ensures, c.from-entries.ensures)
