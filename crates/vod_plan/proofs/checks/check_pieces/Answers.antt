-- Both kinds are counted, that of the lead track first.
use Rattle.std.proofs.Common.{◌≤◌, refl, sym, ap, subst, IfOk}
use Rattle.vod_types.specs.declared.tracks.Kind.TheVariants.{Video, Audio}
use Rattle.vod_types.specs.Results.{unless, Answers}
use Rattle.vod_plan.proofs.DueRows.{counted_rows, front_of, led, others}
use Rattle.vod_plan.proofs.checks.check_pieces.Goals as goal

pub returns-clause-answers : goal.returns-clause-answers
returns-clause-answers c = λ cs are.
    let ps = c.args.pieces.now in
    let v = counted_rows Video ps ps c.count_of-video.result refl c.requires.pieces c.count_of-video.ensures in
    let a = counted_rows Audio ps ps c.count_of-audio.result refl c.requires.pieces c.count_of-audio.ensures in
    let n = c.lead_first-counts.result in
    subst (λ due. Answers (λ done. done) c.check_front.result due)
    (ap unless (sym (front_of c.args.number c.args.form c.args.asked ps n.0 n.1 (led c.args.asked ps c.count_of-video.result c.count_of-audio.result n v a c.lead_first-counts.ensures)
    (others c.args.asked ps c.count_of-video.result c.count_of-audio.result n v a c.lead_first-counts.ensures) cs are)))
    c.check_front.ensures.answers

pub returns-clause-lead : goal.returns-clause-lead
returns-clause-lead c =
    let ps = c.args.pieces.now in
    let v = counted_rows Video ps ps c.count_of-video.result refl c.requires.pieces c.count_of-video.ensures in
    let a = counted_rows Audio ps ps c.count_of-audio.result refl c.requires.pieces c.count_of-audio.ensures in
    subst (λ n. IfOk c.check_front.result (λ done. n ≤ 200000)) (led c.args.asked ps c.count_of-video.result c.count_of-audio.result c.lead_first-counts.result v a c.lead_first-counts.ensures) c.check_front.ensures.lead

pub returns-clause-other : goal.returns-clause-other
returns-clause-other c =
    let ps = c.args.pieces.now in
    let v = counted_rows Video ps ps c.count_of-video.result refl c.requires.pieces c.count_of-video.ensures in
    let a = counted_rows Audio ps ps c.count_of-audio.result refl c.requires.pieces c.count_of-audio.ensures in
    subst (λ n. IfOk c.check_front.result (λ done. n ≤ 200000)) (others c.args.asked ps c.count_of-video.result c.count_of-audio.result c.lead_first-counts.result v a c.lead_first-counts.ensures) c.check_front.ensures.other
