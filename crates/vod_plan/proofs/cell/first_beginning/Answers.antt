-- Rows are gone through piece by piece.
use Rattle.std.proofs.Common.{◌≡◌, ◌+◌, ℤ, w64, of_z, to_z, map, sym, ap, subst, arith}
use Rattle.std.specs.List.{position_or_len}
use Rattle.std.proofs.lemmas.Int.{ints}
use Rattle.vod_plan.specs.Narrowed.{index_by}
use Rattle.vod_plan.specs.Ranges.{planned_of}
use Rattle.vod_plan.specs.Selected.{begins_by}
use Rattle.vod_plan.specs.Spans.{piece_view}
use Rattle.vod_plan.proofs.PlaceLemmas.{rest, begins_here, begins_later, rest_end}
use Rattle.vod_plan.proofs.SoundLemmas.{sound_at}
use Rattle.vod_plan.proofs.cell.first_beginning.Goals as goal

pub returns-then-index-rows-clause-row : goal.returns-then-index-rows-clause-row
returns-then-index-rows-clause-row g c =
    let kind = c.args.kind in
    let same : to_z w64 (of_z w64 c.args.time) ≡ c.args.time = omega (arith, ints, c.requires.time) in
    let ps = c.args.pieces.now in
    let i = c.loop-piece.piece-index in
    let p = c.piece-item.result in
    let row = subst (λ (t : ℤ). c.loop-piece.place + position_or_len (begins_by c.args.align t) (rest kind i ps) ≡ position_or_len (begins_by c.args.align t) (planned_of kind (map piece_view ps))) same c.loop-piece.invariant.row in
    let index = subst (λ (t : ℤ). c.index_by-index.result ≡ index_by kind c.args.align t (piece_view p)) same c.index_by-index.ensures.index in
    let here = begins_here kind ps i p (omega arith) c.piece-item.is (sound_at ps i p c.requires.pieces (omega arith) c.piece-item.is)
    c.args.align c.args.time c.index_by-index.result index (omega (arith, c.if-index-rows.true, c.rows.ensures)) in
    omega (arith, row, here, c.from-place.ensures)

pub loop-piece-preserved : goal.loop-piece-preserved
loop-piece-preserved g c =
    let kind = c.args.kind in
    let same : to_z w64 (of_z w64 c.args.time) ≡ c.args.time = omega (arith, ints, c.requires.time) in
    let ps = c.args.pieces.now in
    let i = c.loop-piece.piece-index in
    let p = c.piece-item.result in
    let row = subst (λ (t : ℤ). c.loop-piece.place + position_or_len (begins_by c.args.align t) (rest kind i ps) ≡ position_or_len (begins_by c.args.align t) (planned_of kind (map piece_view ps))) same c.loop-piece.invariant.row in
    let index = subst (λ (t : ℤ). c.index_by-index.result ≡ index_by kind c.args.align t (piece_view p)) same c.index_by-index.ensures.index in
    let later = begins_later kind ps i p (omega arith) c.piece-item.is (sound_at ps i p c.requires.pieces (omega arith) c.piece-item.is)
    c.args.align c.args.time c.index_by-index.result index (omega (arith, c.if-index-rows.false, c.rows.ensures, c.index_by-index.ensures.within)) in
    record {
      row = subst (λ (t : ℤ). c.loop-piece.place + c.from-place.result + position_or_len (begins_by c.args.align t) (rest kind (i + 1) ps) ≡ position_or_len (begins_by c.args.align t) (planned_of kind (map piece_view ps)))
          (sym same) (omega (arith, row, later, c.from-place.ensures));
      small = omega (arith, c.loop-piece.invariant.small, c.from-place.ensures);
      looks = omega (arith, c.loop-piece.invariant.looks, c.index_by-index.ensures.looks);
    }

pub returns-clause-row : goal.returns-clause-row
returns-clause-row g c =
    let kind = c.args.kind in
    let same : to_z w64 (of_z w64 c.args.time) ≡ c.args.time = omega (arith, ints, c.requires.time) in
    let ps = c.args.pieces.now in
    let i = c.loop-piece.piece-index in
    let row = subst (λ (t : ℤ). c.loop-piece.place + position_or_len (begins_by c.args.align t) (rest kind i ps) ≡ position_or_len (begins_by c.args.align t) (planned_of kind (map piece_view ps))) same c.loop-piece.invariant.row in
    let none = ap (position_or_len (begins_by c.args.align c.args.time)) (rest_end kind ps i (omega (arith, c.loop-piece-test.false))) in
    omega (arith, row, none)
