-- From part to part.
use Rattle.std.proofs.Common.{◌≡◌, ◌+◌, ◌-◌, ◌<◌, ◌≤◌, ℕ, drop, get_or, length, map, refl, ap, subst, arith}
use Rattle.std.specs.Prelude.{sum}
use Rattle.vod_types.specs.Tracks.{lead_of}
use Rattle.segment_model.specs.Cut.{listed}
use Rattle.segment_model.specs.Grid.{PartGrid}
use Rattle.segment_model.specs.Listing.{listed_view}
use Rattle.origin_model.specs.Sources.{source_piece}
use Rattle.vod_plan.specs.declared.listed_part.ListedPart.{ListedPart}
use Rattle.vod_plan.specs.ListingParts.{part_over}
use Rattle.vod_plan.proofs.ListingRests.{looks_next, looks_within, rest_ended, rest_next, sum_left, AreLooksFor}
use Rattle.vod_plan.proofs.listed.list_parts.Goals as goal

pub returns-in-Err-clause-looks : goal.returns-in-Err-clause-looks
returns-in-Err-clause-looks g c = λ cs n h follow.
    let place = c.loop-place.place in
    let parts = c.args.parts.now in
    let lt : place < length parts = omega (arith, c.loop-place-test.true) in
    let numbers = sum_left c.args.counts.now place c.loop-place.number _ (omega (arith, lt, c.requires.counts)) c.loop-place.invariant.numbers in
    let count = get_or c.args.counts.now place 0 in
    let cells : c.cells.result.cells ≡ count = ap (λ (g : PartGrid). g.cells) c.cells.ensures in
    looks_within c.args.asked c.args.pieces.now cs h _ n (c.loop-place.number - 1 + count) (sum c.args.counts.now) c.args.steps.now c.list.new.steps
    (looks_next c.args.asked c.args.pieces.now cs h parts place n (c.loop-place.number - 1) count c.lead_of-leads.result c.pieces_in.result.now c.args.steps.now c.loop-place.steps c.list.new.steps lt
    (c.loop-place.invariant.looks cs n h follow) c.lead_of-leads.ensures c.pieces_in.ensures.pieces (omega (arith, c.in-Err.ensures.looks, cells)) c.in-Err.ensures.none)
    (omega (arith, numbers.1, c.loop-place.invariant.first))

pub loop-place-preserved : goal.loop-place-preserved
loop-place-preserved g c =
    let place = c.loop-place.place in
    let parts = c.args.parts.now in
    let lt : place < length parts = omega (arith, c.loop-place-test.true) in
    let numbers = sum_left c.args.counts.now place c.loop-place.number _ (omega (arith, lt, c.requires.counts)) c.loop-place.invariant.numbers in
    let count = get_or c.args.counts.now place 0 in
    let cells : c.cells.result.cells ≡ count = ap (λ (g : PartGrid). g.cells) c.cells.ensures in
    let p : ListedPart = record { part = place + 1; number = c.loop-place.number; leads = c.lead_of-leads.result; cells = c.cells.result; pieces = c.pieces_in.result } in
    record {
      first = omega (arith, c.loop-place.invariant.first);
      numbers = numbers.0;
      few = omega (arith, c.in-Ok.ensures.count, cells, c.loop-place.invariant.few);
      parts = c.in-Ok.ensures.parts c.loop-place.invariant.parts;
      rest = λ cs h counts.
          rest_next c.args.cut.grid.now c.args.cut.align c.args.asked c.args.pieces.now cs h parts c.args.counts.now place c.loop-place.number p (map listed_view c.loop-place.out.items) (map listed_view c.list.new.out.items)
          (listed (lead_of c.args.asked) c.args.cut.grid.now c.args.cut.align (map (part_over (map source_piece cs)) parts)) lt counts (c.loop-place.invariant.rest cs h counts)
          c.lead_of-leads.ensures c.pieces_in.ensures.pieces refl refl c.cells.ensures c.in-Ok.ensures.listed;
      looks = λ cs n h follow. (
          let more : c.loop-place.number - 1 + count ≡ c.loop-place.number + count - 1 = omega (arith, c.loop-place.invariant.first) in
          subst (λ (m : ℕ). AreLooksFor c.args.asked (drop (place + 1) parts) n m c.args.steps.now c.list.new.steps) more
          (looks_next c.args.asked c.args.pieces.now cs h parts place n (c.loop-place.number - 1) count c.lead_of-leads.result c.pieces_in.result.now c.args.steps.now c.loop-place.steps c.list.new.steps lt
          (c.loop-place.invariant.looks cs n h follow) c.lead_of-leads.ensures c.pieces_in.ensures.pieces (omega (arith, c.in-Ok.ensures.looks, cells)) c.in-Ok.ensures.none));
    }

pub returns-clause-listed : goal.returns-clause-listed
returns-clause-listed g c = λ cs h counts.
    rest_ended c.args.cut.grid.now c.args.cut.align c.args.asked c.args.pieces.now cs h c.args.parts.now c.loop-place.place c.loop-place.number (map listed_view c.loop-place.out.items) _
    (let past : length c.args.parts.now ≤ c.loop-place.place = omega (arith, c.loop-place-test.false) in past) (c.loop-place.invariant.rest cs h counts)

pub returns-clause-looks : goal.returns-clause-looks
returns-clause-looks g c = λ cs n h follow.
    looks_within c.args.asked c.args.pieces.now cs h _ n (c.loop-place.number - 1) (sum c.args.counts.now) c.args.steps.now c.loop-place.steps (c.loop-place.invariant.looks cs n h follow)
    (omega (arith, c.loop-place.invariant.numbers))
