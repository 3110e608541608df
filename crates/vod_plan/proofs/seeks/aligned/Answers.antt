-- A number of a row fits 32 bits, as the number of all does.
use Rattle.std.proofs.Common.{◌≡◌, ℕ, ap, ap₂, ◌∙◌, arith}
use Rattle.mp4_model.specs.Samples.{first_sync_from, sample_count}
use Rattle.time_runs.specs.Timed.{Timed}
use Rattle.segment_model.proofs.CellNumbers.{sync_within}
use Rattle.vod_plan.specs.Ranges.{range_of}
use Rattle.vod_plan.specs.Spans.{piece_view}
use Rattle.vod_plan.proofs.SeekLemmas.{some_of}
use Rattle.vod_plan.proofs.seeks.aligned.Goals as goal

pub first_sync_from-requires : goal.first_sync_from-requires
first_sync_from-requires g c =
    let r = some_of (range_of c.args.kind (piece_view c.args.piece.now)) c.requires.some in
    let count : sample_count c.times.result.tables ≡ sample_count r.0.track.tables = ap (λ (x : Timed). sample_count x.tables) (c.times.ensures r.0 r.1) in
    omega (arith, count, c.from.ensures, c.requires.within r.0 r.1)

pub overflow_cast-result : goal.overflow_cast-result
overflow_cast-result g c =
    let r = some_of (range_of c.args.kind (piece_view c.args.piece.now)) c.requires.some in
    let found : c.first_sync_from.result ≡ first_sync_from r.0.track.tables c.args.row =
    c.first_sync_from.ensures.value
    ∙ ap₂ (λ (x : Timed) (row : ℕ). first_sync_from x.tables row) (c.times.ensures r.0 r.1) c.from.ensures in
    let rows = c.samples-rows.ensures r.0 r.1 in
    let within = sync_within r.0.track.tables c.args.row (c.requires.within r.0 r.1) in
    omega (arith, found, within, rows)
