-- A step of both cursors.
use Rattle.std.proofs.Common.{◌≡◌, ℕ, ◌+◌, SFits, w64, Bool, ℤ, sym, ap, subst, ◌∙◌, arith}
use Rattle.std.proofs.lemmas.Int.{ints, to_z-of_z}
use Rattle.std.specs.Prelude.{slice_index}
use Rattle.mp4_model.specs.Samples.{composition_offset, decode_time, is_sync, flat_row, sample_count, sample_deltas, sample_offset, sample_sizes}
use Rattle.mp4_model.specs.Tables.{SampleTables}
use Rattle.mp4_model.proofs.OffsetLemmas.{offset_near}
use Rattle.time_runs.specs.Cursors.{StandsAt as times_stand_at}
use Rattle.chunk_runs.specs.Cursors.{StandsAt as places_stand_at}
use Rattle.vod_plan.specs.Ranges.{RowRange}
use Rattle.vod_plan.specs.Walks.{IsIn}
use Rattle.vod_plan.proofs.SpotLemmas.{good_range, one_value, places_row, sample_is, stand_in, times_row}
use Rattle.vod_plan.proofs.walk.sample_at.Goals as goal

pub next-offset-requires-clause-stands : goal.next-offset-requires-clause-stands
next-offset-requires-clause-stands g c =
    let next = c.requires.next in
    let tables : c.runs-timescale.result.2.tables ≡ next.range.track.tables = ap (λ x. x.2.tables) (c.runs-timescale.ensures next.range next.is_range) in
    let row = places_row next.range.track.tables c.args.spot.now.times.row c.args.spot.now.places next.inside.in_places in
    subst (λ (t : SampleTables). places_stand_at t c.args.spot.now.places.row c.args.spot.now.places) (sym tables)
    (subst (λ (n : ℕ). places_stand_at next.range.track.tables n c.args.spot.now.places) (sym row) next.inside.in_places)

pub next-offset-requires-clause-within : goal.next-offset-requires-clause-within
next-offset-requires-clause-within g c =
    let next = c.requires.next in
    let tables : c.runs-timescale.result.2.tables ≡ next.range.track.tables = ap (λ x. x.2.tables) (c.runs-timescale.ensures next.range next.is_range) in
    let row = places_row next.range.track.tables c.args.spot.now.times.row c.args.spot.now.places next.inside.in_places in
    let good = good_range c.args.kind c.args.piece.now next.range c.requires.piece next.is_range in
    let count : sample_count c.runs-timescale.result.2.tables ≡ sample_count next.range.track.tables = ap sample_count tables in
    omega (arith, count, row, next.left, good.to)

pub returns-clause-sample : goal.returns-clause-sample
returns-clause-sample g c = λ r e.
    let next = c.requires.next in
    let i : ℕ = c.args.spot.now.times.row in
    let t : SampleTables = next.range.track.tables in
    let same = one_value _ next.range r next.is_range e in
    let timed : c.runs-timescale.result.1.tables ≡ t = ap (λ x. x.1.tables) (c.runs-timescale.ensures next.range next.is_range) in
    let placed : c.runs-timescale.result.2.tables ≡ t = ap (λ x. x.2.tables) (c.runs-timescale.ensures next.range next.is_range) in
    let row = places_row t i c.args.spot.now.places next.inside.in_places in
    let good = good_range c.args.kind c.args.piece.now next.range c.requires.piece next.is_range in
    let value = c.next-decode_time.ensures.value ∙ ap (λ (u : SampleTables). (decode_time u i, composition_offset u i, slice_index (sample_deltas u) i, is_sync u i)) timed in
    let place = c.next-offset.ensures.value ∙ ap (λ (u : SampleTables). (sample_offset u c.args.spot.now.places.row, slice_index (sample_sizes u) c.args.spot.now.places.row)) placed
    ∙ ap (λ (n : ℕ). (sample_offset t n, slice_index (sample_sizes t) n)) row in
    let near = offset_near t next.range.track.timescale i good.usable.none_broken in
    let offset : c.next-decode_time.result.1 ≡ composition_offset t i = ap (λ (u : ℕ × ℤ × ℕ × Bool). u.1) value in
    let fits : SFits w64 c.next-decode_time.result.1 = omega (arith, ints, offset, near, good.usable.small) in
    sample_is t i c.next-decode_time.result c.next-offset.result _ value place (to_z-of_z w64 c.next-decode_time.result.1 fits)
    ∙ ap (λ (q : RowRange). flat_row q.track.tables i) same

pub returns-clause-inside : goal.returns-clause-inside
returns-clause-inside g c = λ r e.
    let next = c.requires.next in
    let i : ℕ = c.args.spot.now.times.row in
    let t : SampleTables = next.range.track.tables in
    let same = one_value _ next.range r next.is_range e in
    let timed : c.runs-timescale.result.1.tables ≡ t = ap (λ x. x.1.tables) (c.runs-timescale.ensures next.range next.is_range) in
    let placed : c.runs-timescale.result.2.tables ≡ t = ap (λ x. x.2.tables) (c.runs-timescale.ensures next.range next.is_range) in
    let row = places_row t i c.args.spot.now.places next.inside.in_places in
    let from = next.inside.from in
    let to = next.left in
    subst (λ (q : RowRange). IsIn q c.next-decode_time.new.self c.next-offset.new.self) same
    (stand_in next.range (i + 1) c.next-decode_time.new.self c.next-offset.new.self (omega (arith, from)) (omega (arith, to))
    (subst (λ (u : SampleTables). times_stand_at u (i + 1) c.next-decode_time.new.self) timed c.next-decode_time.ensures.stands)
    (subst (λ (n : ℕ). places_stand_at t (n + 1) c.next-offset.new.self) row
    (subst (λ (u : SampleTables). places_stand_at u (c.args.spot.now.places.row + 1) c.next-offset.new.self) placed c.next-offset.ensures.stands)))

pub returns-clause-next : goal.returns-clause-next
returns-clause-next g c = times_row c.runs-timescale.result.1.tables (c.args.spot.now.times.row + 1) c.next-decode_time.new.self c.next-decode_time.ensures.stands
