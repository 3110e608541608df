-- Sync rows are counted piece by piece.
use Rattle.std.proofs.Common.{◌+◌, ◌-◌, ℕ, map, refl, arith}
use Rattle.vod_plan.specs.Ranges.{planned_of}
use Rattle.vod_plan.specs.Spans.{piece_view, rows_in}
use Rattle.vod_plan.proofs.SoundLemmas.{sound_piece}
use Rattle.vod_plan.proofs.SyncLemmas.{rest_here, rest_later, rows_rest, sync_same, syncs_rest, syncs_within}
use Rattle.vod_plan.proofs.syncs.sync_at.Goals as goal

pub returns-in-Ok-clause-found : goal.returns-in-Ok-clause-found
returns-in-Ok-clause-found g c =
    let kind = c.args.kind in
    let ps = c.args.pieces.now in
    let i = c.loop-piece.piece-index in
    let p = c.piece-item.result in
    let good = sound_piece ps i p c.requires.pieces (omega arith) c.piece-item.is in
    let here = rest_here kind ps i p (omega arith) c.piece-item.is good (c.args.index - c.loop-piece.passed) c.in-Ok.at (c.in-Ok.ensures.found i) in
    sync_same (planned_of kind (map piece_view ps)) (c.loop-piece.passed + (c.args.index - c.loop-piece.passed)) (c.loop-piece.place + c.in-Ok.at) c.args.index (c.loop-piece.place + c.from.result)
    (omega (arith, c.loop-piece.invariant.most)) (omega (arith, c.from.ensures)) (c.loop-piece.invariant.moved (c.args.index - c.loop-piece.passed) c.in-Ok.at here)

pub returns-in-Ok-clause-looks : goal.returns-in-Ok-clause-looks
returns-in-Ok-clause-looks g c =
    let kind = c.args.kind in
    let ps = c.args.pieces.now in
    let i = c.loop-piece.piece-index in
    let p = c.piece-item.result in
    let good = sound_piece ps i p c.requires.pieces (omega arith) c.piece-item.is in
    omega (arith, c.sync_in.ensures.looks, c.loop-piece.invariant.looks, c.loop-piece.invariant.rows, rows_rest kind ps i p (omega arith) c.piece-item.is good, c.loop-piece-test.true)

pub loop-piece-preserved : goal.loop-piece-preserved
loop-piece-preserved g c =
    let kind = c.args.kind in
    let ps = c.args.pieces.now in
    let i = c.loop-piece.piece-index in
    let p = c.piece-item.result in
    let n = c.in-Err.syncs in
    let k = c.loop-piece.invariant in
    let good = sound_piece ps i p c.requires.pieces (omega arith) c.piece-item.is in
    let count = c.in-Err.ensures.none.1 i in
    let rows = rows_rest kind ps i p (omega arith) c.piece-item.is good in
    let counted = c.rows.ensures in
    let few = syncs_within kind i p good n count in
    record {
      moved = λ index place later.
          let whole : ℕ = rows_in kind (piece_view p) in
          sync_same (planned_of kind (map piece_view ps)) (c.loop-piece.passed + (n + index)) (c.loop-piece.place + (whole + place)) (c.loop-piece.passed + c.from-passed.result + index) (c.loop-piece.place + c.from-place.result + place)
          (omega (arith, c.from-passed.ensures)) (omega (arith, c.from-place.ensures, counted))
          (k.moved (n + index) (whole + place) (rest_later kind ps i p (omega arith) c.piece-item.is good n count index place (n + index) (whole + place) refl refl later));
      syncs = omega (arith, k.syncs, c.from-passed.ensures, syncs_rest kind ps i p (omega arith) c.piece-item.is good n count);
      rows = omega (arith, k.rows, rows, c.from-place.ensures, counted);
      most = omega (arith, k.most, c.from-passed.ensures, c.in-Err.ensures.none.0);
      small = omega (arith, k.small, c.from-place.ensures);
      fewer = omega (arith, k.fewer, c.from-place.ensures, c.from-passed.ensures, counted, few);
      looks = omega (arith, k.looks, c.sync_in.ensures.looks, c.from-place.ensures, counted);
    }
