-- Cursors at the first row of a range.
use Rattle.std.proofs.Common.{◌≡◌, true, ap, subst, ◌∙◌, arith}
use Rattle.mp4_model.specs.Tables.{SampleTables}
use Rattle.time_runs.specs.Cursors.{StandsAt as times_stand_at}
use Rattle.chunk_runs.specs.Cursors.{StandsAt as places_stand_at}
use Rattle.vod_plan.specs.Spans.{piece_view}
use Rattle.vod_plan.proofs.SpotLemmas.{good_range, range_some, stand_in, times_row}
use Rattle.vod_plan.proofs.walk.begin.Goals as goal

pub returns-clause-inside : goal.returns-clause-inside
returns-clause-inside g c = λ r e.
    let good = good_range c.args.kind c.args.piece.now r c.requires.piece e in
    let row : c.from-row.result ≡ r.from = c.from-row.ensures ∙ c.range.ensures.from r e in
    let timed = subst (λ (t : SampleTables). times_stand_at t c.from-row.result c.cursor-times.result) (ap (λ x. x.1.tables) (c.runs-runs.ensures r e)) c.cursor-times.ensures.stands in
    let placed = subst (λ (t : SampleTables). places_stand_at t c.from-row.result c.cursor-places.result) (ap (λ x. x.2.tables) (c.runs-runs.ensures r e)) c.cursor-places.ensures.stands in
    stand_in r c.from-row.result c.cursor-times.result c.cursor-places.result (omega (arith, row)) (omega (arith, row, good.from)) timed placed

pub returns-clause-first : goal.returns-clause-first
returns-clause-first g c = λ r e.
    times_row c.runs-runs.result.1.tables c.from-row.result c.cursor-times.result c.cursor-times.ensures.stands ∙ c.from-row.ensures ∙ c.range.ensures.from r e

pub returns-clause-looks : goal.returns-clause-looks
returns-clause-looks g c =
    let found = range_some c.args.kind (piece_view c.args.piece.now) c.requires.some in
    let timed : c.runs-runs.result.1.indexed ≡ true = ap (λ x. x.1.indexed) (c.runs-runs.ensures found.0 found.1) in
    let placed : c.runs-runs.result.2.indexed ≡ true = ap (λ x. x.2.indexed) (c.runs-runs.ensures found.0 found.1) in
    let first = c.cursor-times.ensures.looks timed in
    let second = c.cursor-places.ensures.looks placed in
    omega (arith, first, second)
