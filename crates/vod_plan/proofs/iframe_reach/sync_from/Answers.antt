-- The first sync row of a track from a row on, if it is one of the piece.
use Rattle.std.proofs.Common.{◌≡◌, ◌+◌, ◌-◌, true, ap, ◌∙◌, arith}
use Rattle.mp4_model.specs.Samples.{first_sync_from}
use Rattle.vod_plan.specs.Spans.{piece_view}
use Rattle.vod_plan.proofs.IframeReaches.{piece_ended, piece_sync}
use Rattle.vod_plan.proofs.SeekLemmas.{aligned_from, rows_count}
use Rattle.vod_plan.proofs.SpotLemmas.{good_range, range_there}
use Rattle.vod_plan.proofs.iframe_reach.sync_from.Goals as goal

pub returns-then-index-rows-clause-sync : goal.returns-then-index-rows-clause-sync
returns-then-index-rows-clause-sync g c = λ file. piece_ended c.args.kind file c.args.piece.now c.args.index c.requires.piece (omega (arith, c.if-index-rows.true, c.rows.ensures))

pub overflow_sub-result : goal.overflow_sub-result
overflow_sub-result g c =
    let kind = c.args.kind in
    let r = range_there kind (piece_view c.args.piece.now) (omega (arith, c.if-index-rows.false, c.rows.ensures)) in
    let good = good_range kind c.args.piece.now r.0 c.requires.piece.piece r.1 in
    let later = aligned_from true r.0 (c.range-span.result.from + c.args.index) in
    omega (arith, c.min.ensures, c.aligned.ensures.value r.0 r.1, later, c.range-span.ensures.from r.0 r.1, c.range-span.ensures.to r.0 r.1, good.from)

pub returns-clause-sync : goal.returns-clause-sync
returns-clause-sync g c = λ file.
    let kind = c.args.kind in
    let r = range_there kind (piece_view c.args.piece.now) (omega (arith, c.if-index-rows.false, c.rows.ensures)) in
    let good = good_range kind c.args.piece.now r.0 c.requires.piece.piece r.1 in
    let count = rows_count kind (piece_view c.args.piece.now) r.0 r.1 in
    let row : c.range-span.result.from + c.args.index ≡ r.0.from + c.args.index = omega (arith, c.range-span.ensures.from r.0 r.1) in
    let value : c.aligned.result ≡ first_sync_from r.0.track.tables (r.0.from + c.args.index) = c.aligned.ensures.value r.0 r.1 ∙ ap (first_sync_from r.0.track.tables) row in
    piece_sync kind file c.args.piece.now r.0 c.args.index (c.min.result - c.range-span.result.from) r.1 good (omega (arith, count, c.requires.index))
    (omega (arith, c.min.ensures, value, c.range-span.ensures.from r.0 r.1, c.range-span.ensures.to r.0 r.1))
