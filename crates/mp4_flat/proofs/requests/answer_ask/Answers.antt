use Rattle.list_model.specs.Path.{is_dash}
use Rattle.flat_lists.specs.Asked.{asking_view, setup_of}
use Rattle.vod_source.proofs.CallLemmas.{told_with_all, told_with_other}
use Rattle.std.specs.Prelude.{None}
use Rattle.origin_model.specs.Answers.{leaf_answer}
use Rattle.flat_segments.specs.Bodies.{flat_shown}
use Rattle.mp4_flat.specs.Flat.{bytes_and_cut}
use Rattle.mp4_flat.proofs.AnsweredPaths.{ask_answered, ask_refused, whole_answer}
use Rattle.mp4_flat.proofs.requests.answer_ask.Goals as goal

pub returns-in-Err-clause-told : goal.returns-in-Err-clause-told
returns-in-Err-clause-told g c =
    told_with_all (g.S.Store.content c.args.files.now) _ _ c.in-Err.ensures.told
    (λ known came. ask_refused (setup_of c.args.settings.now c.args.root.now known) None c.args.ask flat_shown bytes_and_cut asking_view c.in-Err.refusal _ _ (came c.args.settings.now))

pub leaf_answer-requires : goal.leaf_answer-requires
leaf_answer-requires g c = (is_dash c.args.ask.place, c.requires.leaf)

pub returns-clause-told : goal.returns-clause-told
returns-clause-told g c =
    told_with_other (g.S.Store.content c.args.files.now) _ _ _ _ c.in-Ok.ensures.content c.in-Ok.ensures.told c.leaf_answer.ensures.told
    (λ known came body. let asked = came c.args.settings.now in
    let o = setup_of c.args.settings.now c.args.root.now known in
    let a = asking_view c.in-Ok.asking in
    ask_answered o None c.args.ask flat_shown bytes_and_cut a c.leaf_answer.result (leaf_answer o a c.args.ask.leaf) _ _ _ (whole_answer o a c.args.ask.leaf) asked.answered asked.logged body)
