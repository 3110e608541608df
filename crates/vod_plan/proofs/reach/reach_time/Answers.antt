-- A search that goes on from piece to piece.
use Rattle.std.proofs.Common.{◌≡◌, ◌+◌, ◌<◌, ℕ, ℤ, w64, of_z, to_z, drop, length, map, refl, sym, ap, ◌∙◌, subst, arith}
use Rattle.std.proofs.lemmas.Int.{ints}
use Rattle.std.proofs.lemmas.Option.{slice_get_read}
use Rattle.std.specs.List.{position_or_len}
use Rattle.vod_plan.specs.Narrowed.{index_by}
use Rattle.vod_plan.specs.Selected.{begins_by}
use Rattle.vod_plan.specs.Ranges.{planned_of}
use Rattle.vod_plan.specs.Spans.{piece_view, rows_in}
use Rattle.vod_plan.proofs.ListingReaches.{search_begin, behind_next, reached_here, reached_behind, IsSearch}
use Rattle.vod_plan.proofs.PlaceLemmas.{begins_here, begins_later, rest, rest_end}
use Rattle.vod_plan.proofs.SoundLemmas.{sound_at}
use Rattle.vod_plan.proofs.reach.reach_time.Goals as goal

pub loop-place-init : goal.loop-place-init
loop-place-init g c = record {
  from = omega arith;
  within = c.requires.earlier.piece;
  front = c.requires.earlier.before;
  small = c.requires.earlier.small;
  due = search_begin c.args.kind c.args.pieces.now c.args.align (to_z w64 (of_z w64 c.args.time)) c.args.earlier c.requires.earlier;
  looks = omega arith;
}

pub returns-then-index-rows-clause-reached : goal.returns-then-index-rows-clause-reached
returns-then-index-rows-clause-reached g c =
    let ps = c.args.pieces.now in
    let i = c.loop-place.place in
    let p = c.index-pieces-place.result in
    let lt : i < length ps = omega (arith, c.loop-place-test.true) in
    reached_here c.args.kind ps i p lt c.index-pieces-place.is (sound_at ps i p c.requires.pieces lt c.index-pieces-place.is)
    (record { piece = i; before = c.loop-place.before; index = c.index_by-index.result }) refl
    (record { piece = c.loop-place.invariant.within; before = c.loop-place.invariant.front; small = c.loop-place.invariant.small })
    (omega (arith, c.if-index-rows.true, c.rows-rows.ensures))
    (slice_get_read ps (length ps) i p refl lt c.index-pieces-place.is)

pub returns-then-index-rows-clause-place : goal.returns-then-index-rows-clause-place
returns-then-index-rows-clause-place g c = λ le.
    let kind = c.args.kind in
    let ps = c.args.pieces.now in
    let i = c.loop-place.place in
    let p = c.index-pieces-place.result in
    let lt : i < length ps = omega (arith, c.loop-place-test.true) in
    let same : to_z w64 (of_z w64 c.args.time) ≡ c.args.time = omega (arith, ints, c.requires.time) in
    let due = subst (λ (t : ℤ). IsSearch kind ps c.args.align t c.args.earlier.before c.loop-place.before i) same c.loop-place.invariant.due le in
    let index = subst (λ (t : ℤ). c.index_by-index.result ≡ index_by kind c.args.align t (piece_view p)) same c.index_by-index.ensures.index in
    let here = begins_here kind ps i p lt c.index-pieces-place.is (sound_at ps i p c.requires.pieces lt c.index-pieces-place.is)
    c.args.align c.args.time c.index_by-index.result index (omega (arith, c.if-index-rows.true, c.rows-rows.ensures)) in
    ap (λ (n : ℕ). c.loop-place.before + n) (sym here) ∙ due

pub loop-place-preserved : goal.loop-place-preserved
loop-place-preserved g c =
    let kind = c.args.kind in
    let ps = c.args.pieces.now in
    let i = c.loop-place.place in
    let p = c.index-pieces-place.result in
    let lt : i < length ps = omega (arith, c.loop-place-test.true) in
    let is = c.index-pieces-place.is in
    let sound = sound_at ps i p c.requires.pieces lt is in
    let same : to_z w64 (of_z w64 c.args.time) ≡ c.args.time = omega (arith, ints, c.requires.time) in
    let time = to_z w64 (of_z w64 c.args.time) in
    let rows : c.from-before.result ≡ rows_in kind (piece_view p) = c.from-before.ensures ∙ c.rows-rows.ensures in
    let later = begins_later kind ps i p lt is sound c.args.align time c.index_by-index.result c.index_by-index.ensures.index
    (omega (arith, c.if-index-rows.false, c.rows-rows.ensures, c.index_by-index.ensures.within)) in
    record {
      from = omega (arith, c.loop-place.invariant.from);
      within = omega (arith, lt);
      front = behind_next kind ps i p lt is sound c.loop-place.before c.loop-place.invariant.front ∙ ap (λ (n : ℕ). drop (c.loop-place.before + n) (planned_of kind (map piece_view ps))) (sym rows);
      small = omega (arith, c.loop-place.invariant.small, c.from-before.ensures);
      due = λ le. (let due = c.loop-place.invariant.due le in omega (arith, due, later, rows, c.if-index-rows.false, c.rows-rows.ensures, c.index_by-index.ensures.within));
      looks = omega (arith, c.loop-place.invariant.looks, c.index_by-index.ensures.looks);
    }

pub returns-clause-reached : goal.returns-clause-reached
returns-clause-reached g c =
    let ps = c.args.pieces.now in
    let at : c.loop-place.place ≡ length ps = omega (arith, c.loop-place-test.false, c.loop-place.invariant.within) in
    reached_behind c.args.kind ps (record { piece = length ps; before = c.loop-place.before; index = 0 }) (omega arith)
    (record {
      piece = omega arith;
      before = ap (λ (n : ℕ). rest c.args.kind n ps) (sym at) ∙ c.loop-place.invariant.front;
      small = omega (arith, c.loop-place.invariant.small, at);
    })

pub returns-clause-place : goal.returns-clause-place
returns-clause-place g c = λ le.
    let ps = c.args.pieces.now in
    let same : to_z w64 (of_z w64 c.args.time) ≡ c.args.time = omega (arith, ints, c.requires.time) in
    let due = subst (λ (t : ℤ). IsSearch c.args.kind ps c.args.align t c.args.earlier.before c.loop-place.before c.loop-place.place) same c.loop-place.invariant.due le in
    let none = ap (position_or_len (begins_by c.args.align c.args.time)) (rest_end c.args.kind ps c.loop-place.place (omega (arith, c.loop-place-test.false))) in
    omega (arith, due, none)
