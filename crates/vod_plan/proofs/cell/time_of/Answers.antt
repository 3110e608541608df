-- The row is found in its piece.
use Rattle.std.proofs.Common.{◌≡◌, ◌+◌, ◌-◌, ℕ, ℤ, List, Some, w64, of_z, to_z, sym, ap, ◌∙◌, arith}
use Rattle.std.specs.Prelude.{option_map, slice_get}
use Rattle.std.proofs.lemmas.Int.{ints}
use Rattle.segment_model.specs.Rows.{TimedRow}
use Rattle.vod_plan.proofs.PlaceLemmas.{rest, row_later, time_here, rest_end}
use Rattle.vod_plan.proofs.SoundLemmas.{sound_at}
use Rattle.vod_plan.proofs.cell.time_of.Goals as goal

pub returns-then-left-rows-clause-time : goal.returns-then-left-rows-clause-time
returns-then-left-rows-clause-time g c =
    let kind = c.args.kind in
    let ps = c.args.pieces.now in
    let i = c.loop-piece.piece-index in
    let p = c.piece-item.result in
    let same : to_z w64 (of_z w64 c.time_at.result) ≡ c.time_at.result = omega (arith, ints, c.time_at.ensures.bound) in
    let here = time_here kind ps i p (omega arith) c.piece-item.is (sound_at ps i p c.requires.pieces (omega arith) c.piece-item.is) c.loop-piece.left c.time_at.result
    (omega (arith, c.if-left-rows.true, c.rows.ensures, c.from-rows.ensures)) c.time_at.ensures.time in
    ap (λ (t : ℤ). Some t) same ∙ here ∙ ap (option_map (λ (r : TimedRow). r.place)) c.loop-piece.invariant.row

pub loop-piece-preserved : goal.loop-piece-preserved
loop-piece-preserved g c =
    let kind = c.args.kind in
    let ps = c.args.pieces.now in
    let i = c.loop-piece.piece-index in
    let p = c.piece-item.result in
    let later = row_later kind ps i p (omega arith) c.piece-item.is (sound_at ps i p c.requires.pieces (omega arith) c.piece-item.is) c.loop-piece.left
    (omega (arith, c.if-left-rows.false, c.rows.ensures, c.from-rows.ensures)) in
    record {
      row = ap (λ (n : ℕ). slice_get (rest kind (i + 1) ps) (c.loop-piece.left - n)) (c.from-rows.ensures ∙ c.rows.ensures) ∙ sym later ∙ c.loop-piece.invariant.row;
      looks = c.loop-piece.invariant.looks;
    }

pub returns-clause-time : goal.returns-clause-time
returns-clause-time g c =
    ap (λ (rows : List TimedRow). option_map (λ (r : TimedRow). r.place) (slice_get rows c.loop-piece.left)) (sym (rest_end c.args.kind c.args.pieces.now c.loop-piece.piece-index (omega (arith, c.loop-piece-test.false))))
    ∙ ap (option_map (λ (r : TimedRow). r.place)) c.loop-piece.invariant.row
