-- The pieces are cut one after another.
use Rattle.std.proofs.Common.{map, get_or, refl, sym, ap, ◌∙◌, arith}
use Rattle.vod_plan.specs.Narrowed.{other_kind}
use Rattle.vod_plan.specs.Ranges.{planned_of}
use Rattle.vod_plan.specs.Spans.{piece_view}
use Rattle.std.proofs.lemmas.List.Elements.{All-set}
use Rattle.vod_plan.specs.Narrowed.{IsSound}
use Rattle.vod_plan.proofs.NarrowLemmas.{by_time, time_step, planned-by_time, others-by_time}
use Rattle.vod_plan.proofs.SoundLemmas.{pieces-refl, pieces-set, sound_views, view_step, view_all}
use Rattle.vod_plan.proofs.cell.cut_by_time.Goals as goal

pub cut_times-requires-clause-piece : goal.cut_times-requires-clause-piece
cut_times-requires-clause-piece g c = c.loop-i.invariant.sound c.loop-i.i c.index-pieces-i.result (omega arith)

pub loop-i-init : goal.loop-i-init
loop-i-init g c = record { views = refl; sound = c.requires.pieces; same = pieces-refl c.args.pieces.now; looks = omega arith }

pub loop-i-preserved : goal.loop-i-preserved
loop-i-preserved g c =
    let kind = c.args.kind in
    let ps = c.loop-i.pieces in
    let i = c.loop-i.i in
    let p = get_or ps i c.index-pieces-i.result in
    let is = ap (get_or ps i) c.index-pieces-i.is in
    let q = c.cut_times.new.piece in
    let from = c.args.from in
    let to = c.args.to in
    let cut = c.cut_times.ensures in
    record {
      views =
          view_step (by_time kind from to) (by_time kind from to) ps i p q (omega arith) is (time_step kind from to (piece_view p) (piece_view q) cut.view)
          ∙ c.loop-i.invariant.views;
      sound = All-set IsSound ps i q cut.piece c.loop-i.invariant.sound;
      same = pieces-set c.args.pieces.now ps i p q c.loop-i.invariant.same (omega arith) is cut.same;
      looks = omega (arith, cut.looks, c.loop-i.invariant.looks);
    }

pub returns-clause-rows : goal.returns-clause-rows
returns-clause-rows g c =
    let kind = c.args.kind in
    ap (planned_of kind) (sym (view_all (by_time kind c.args.from c.args.to) c.loop-i.pieces c.loop-i.i refl (omega (arith, c.loop-i-test.false, c.loop-i.auto.pieces))) ∙ c.loop-i.invariant.views)
    ∙ planned-by_time kind c.args.from c.args.to (map piece_view c.args.pieces.now) (sound_views kind c.args.pieces.now c.requires.pieces)

pub returns-clause-other : goal.returns-clause-other
returns-clause-other g c =
    let kind = c.args.kind in
    ap (planned_of (other_kind kind)) (sym (view_all (by_time kind c.args.from c.args.to) c.loop-i.pieces c.loop-i.i refl (omega (arith, c.loop-i-test.false, c.loop-i.auto.pieces))) ∙ c.loop-i.invariant.views)
    ∙ others-by_time kind c.args.from c.args.to (map piece_view c.args.pieces.now)
