-- A search for a sync row that goes on from piece to piece.
use Rattle.std.proofs.Common.{◌≡◌, ◌+◌, ◌<◌, ℕ, drop, length, map, refl, sym, ap, ◌∙◌, arith}
use Rattle.std.proofs.lemmas.Option.{slice_get_read}
use Rattle.vod_plan.specs.Ranges.{planned_of}
use Rattle.vod_plan.specs.Spans.{piece_view, rows_in}
use Rattle.vod_plan.proofs.IframeReaches.{sync_begin, sync_ended, sync_here, sync_later}
use Rattle.vod_plan.proofs.ListingReaches.{behind_next, reached_here, reached_behind}
use Rattle.vod_plan.proofs.PlaceLemmas.{rest}
use Rattle.vod_plan.proofs.SoundLemmas.{sound_at}
use Rattle.vod_plan.proofs.iframe_reach.reach_sync.Goals as goal

pub loop-place-init : goal.loop-place-init
loop-place-init g c = record {
  from = omega arith;
  within = c.requires.from.piece;
  front = c.requires.from.before;
  small = c.requires.from.small;
  inside = c.requires.index;
  due = sync_begin c.args.kind c.args.pieces.now c.args.from c.requires.from;
  looks = omega arith;
}

pub sync_from-at-requires-clause-index : goal.sync_from-at-requires-clause-index
sync_from-at-requires-clause-index g c =
    let ps = c.args.pieces.now in
    let lt : c.loop-place.place < length ps = omega (arith, c.loop-place-test.true) in
    c.loop-place.invariant.inside c.index-pieces-place.result (slice_get_read ps (length ps) c.loop-place.place c.index-pieces-place.result refl lt c.index-pieces-place.is)

pub returns-then-at-rows-clause-reached : goal.returns-then-at-rows-clause-reached
returns-then-at-rows-clause-reached g c =
    let ps = c.args.pieces.now in
    let i = c.loop-place.place in
    let p = c.index-pieces-place.result in
    let lt : i < length ps = omega (arith, c.loop-place-test.true) in
    reached_here c.args.kind ps i p lt c.index-pieces-place.is (sound_at ps i p c.requires.pieces lt c.index-pieces-place.is)
    (record { piece = i; before = c.loop-place.before; index = c.sync_from-at.result }) refl
    (record { piece = c.loop-place.invariant.within; before = c.loop-place.invariant.front; small = c.loop-place.invariant.small })
    (omega (arith, c.if-at-rows.true, c.rows-rows.ensures))
    (slice_get_read ps (length ps) i p refl lt c.index-pieces-place.is)

pub returns-then-at-rows-clause-place : goal.returns-then-at-rows-clause-place
returns-then-at-rows-clause-place g c =
    let kind = c.args.kind in
    let ps = c.args.pieces.now in
    let i = c.loop-place.place in
    let p = c.index-pieces-place.result in
    let lt : i < length ps = omega (arith, c.loop-place-test.true) in
    let inside = c.loop-place.invariant.inside p (slice_get_read ps (length ps) i p refl lt c.index-pieces-place.is) in
    let here = sync_here kind ps i p lt c.index-pieces-place.is (sound_at ps i p c.requires.pieces lt c.index-pieces-place.is) c.loop-place.index c.sync_from-at.result inside (c.sync_from-at.ensures.sync i)
    (omega (arith, c.if-at-rows.true, c.rows-rows.ensures)) in
    ap (λ (n : ℕ). c.loop-place.before + n) (sym here) ∙ c.loop-place.invariant.due

pub loop-place-preserved : goal.loop-place-preserved
loop-place-preserved g c =
    let kind = c.args.kind in
    let ps = c.args.pieces.now in
    let i = c.loop-place.place in
    let p = c.index-pieces-place.result in
    let lt : i < length ps = omega (arith, c.loop-place-test.true) in
    let is = c.index-pieces-place.is in
    let sound = sound_at ps i p c.requires.pieces lt is in
    let inside = c.loop-place.invariant.inside p (slice_get_read ps (length ps) i p refl lt is) in
    let rows : c.from-before.result ≡ rows_in kind (piece_view p) = c.from-before.ensures ∙ c.rows-rows.ensures in
    let later = sync_later kind ps i p lt is sound c.loop-place.index c.sync_from-at.result inside (c.sync_from-at.ensures.sync i) (omega (arith, c.if-at-rows.false, c.rows-rows.ensures)) in
    record {
      from = omega (arith, c.loop-place.invariant.from);
      within = omega (arith, lt);
      front = behind_next kind ps i p lt is sound c.loop-place.before c.loop-place.invariant.front ∙ ap (λ (n : ℕ). drop (c.loop-place.before + n) (planned_of kind (map piece_view ps))) (sym rows);
      small = omega (arith, c.loop-place.invariant.small, c.from-before.ensures);
      inside = λ q at. omega arith;
      due = omega (arith, c.loop-place.invariant.due, later, rows);
      looks = omega (arith, c.loop-place.invariant.looks, c.sync_from-at.ensures.looks);
    }

pub returns-clause-reached : goal.returns-clause-reached
returns-clause-reached g c =
    let ps = c.args.pieces.now in
    let at : c.loop-place.place ≡ length ps = omega (arith, c.loop-place-test.false, c.loop-place.invariant.within) in
    reached_behind c.args.kind ps (record { piece = length ps; before = c.loop-place.before; index = c.loop-place.index }) (omega arith)
    (record {
      piece = omega arith;
      before = ap (λ (n : ℕ). rest c.args.kind n ps) (sym at) ∙ c.loop-place.invariant.front;
      small = omega (arith, c.loop-place.invariant.small, at);
    })

pub returns-clause-place : goal.returns-clause-place
returns-clause-place g c =
    let ps = c.args.pieces.now in
    let none = sync_ended c.args.kind ps c.loop-place.place c.loop-place.index (omega (arith, c.loop-place-test.false)) in
    omega (arith, c.loop-place.invariant.due, none)
