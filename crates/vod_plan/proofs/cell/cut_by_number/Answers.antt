-- The pieces are cut one after another.
use Rattle.std.proofs.Common.{◌++◌, ℕ, map, take, drop, set, get_or, refl, sym, ap, ◌∙◌, ◌+◌, ◌-◌, arith}
use Rattle.vod_plan.specs.Narrowed.{other_kind}
use Rattle.vod_plan.specs.Ranges.{planned_of}
use Rattle.vod_plan.specs.Spans.{piece_view, rows_in}
use Rattle.std.proofs.lemmas.List.Elements.{All-set}
use Rattle.vod_plan.specs.Narrowed.{IsSound}
use Rattle.vod_plan.proofs.NarrowLemmas.{by_number, number_step, planned-by_number, others-by_number}
use Rattle.vod_plan.proofs.SoundLemmas.{pieces-refl, pieces-set, sound_views, view_step, view_all}
use Rattle.vod_plan.proofs.cell.cut_by_number.Goals as goal

pub cut_front-left-requires : goal.cut_front-left-requires
cut_front-left-requires c = c.loop-i.invariant.sound c.loop-i.i c.index-pieces-i.result (omega arith)

pub loop-i-init : goal.loop-i-init
loop-i-init c = record { views = refl; sound = c.requires.pieces; same = pieces-refl c.args.pieces.now }

pub loop-i-preserved : goal.loop-i-preserved
loop-i-preserved c =
    let kind = c.args.kind in
    let ps = c.loop-i.pieces in
    let i = c.loop-i.i in
    let p = get_or ps i c.index-pieces-i.result in
    let is = ap (get_or ps i) c.index-pieces-i.is in
    let q = c.cut_front-left.new.piece in
    let left = c.loop-i.left in
    let n : ℕ = rows_in kind (piece_view p) in
    let cut = c.cut_front-left.ensures in
    record {
      views =
          ap (λ (l : ℕ × ℕ). take (i + 1) (map piece_view (set ps i q)) ++ by_number kind l.0 l.1 (drop (i + 1) (map piece_view (set ps i q)))) cut.left
          ∙ view_step (by_number kind left.0 left.1) (by_number kind (left.0 - n) (left.1 - n)) ps i p q (omega arith) is
          (number_step kind left.0 left.1 (piece_view p) (piece_view q) cut.view)
          ∙ c.loop-i.invariant.views;
      sound = All-set IsSound ps i q cut.piece c.loop-i.invariant.sound;
      same = pieces-set c.args.pieces.now ps i p q c.loop-i.invariant.same (omega arith) is cut.same;
    }

pub returns-clause-rows : goal.returns-clause-rows
returns-clause-rows c =
    let kind = c.args.kind in
    let left = c.loop-i.left in
    ap (planned_of kind) (sym (view_all (by_number kind left.0 left.1) c.loop-i.pieces c.loop-i.i refl (omega (arith, c.loop-i-test.false, c.loop-i.auto.pieces))) ∙ c.loop-i.invariant.views)
    ∙ planned-by_number kind c.args.from c.args.to (map piece_view c.args.pieces.now) (sound_views kind c.args.pieces.now c.requires.pieces)

pub returns-clause-other : goal.returns-clause-other
returns-clause-other c =
    let kind = c.args.kind in
    let left = c.loop-i.left in
    ap (planned_of (other_kind kind)) (sym (view_all (by_number kind left.0 left.1) c.loop-i.pieces c.loop-i.i refl (omega (arith, c.loop-i-test.false, c.loop-i.auto.pieces))) ∙ c.loop-i.invariant.views)
    ∙ others-by_number kind c.args.from c.args.to (map piece_view c.args.pieces.now)
