use Rattle.std.proofs.Common.{ap, inl, subst, sym}
use Rattle.origin_model.specs.Answers.{clip_answer, ranged_answer}
use Rattle.flat_lists.specs.Asked.{asking_view, setup_of}
use Rattle.vod_source.proofs.CallLemmas.{told_with_all, told_with_other}
use Rattle.mp4_flat.specs.Flat.{bytes_and_part, clip_shown}
use Rattle.mp4_flat.proofs.AnsweredPaths.{ask_refused}
use Rattle.mp4_flat.proofs.ClipAnswers.{clip_asked}
use Rattle.mp4_flat.proofs.clips.clip_ask.Goals as goal

pub returns-in-Err-clause-told : goal.returns-in-Err-clause-told
returns-in-Err-clause-told g c =
    told_with_all (g.S.Store.content c.args.files.now) _ _ c.in-Err.ensures.told
    (λ known came. ask_refused (setup_of c.args.settings.now c.args.root.now known) c.args.range c.args.ask (clip_shown c.args.range) bytes_and_part asking_view c.in-Err.refusal _ _ (came c.args.settings.now))

pub returns-in-Err-clause-refused : goal.returns-in-Err-clause-refused
returns-in-Err-clause-refused g c = inl c.in-Err.ensures.refused

pub returns-clause-told : goal.returns-clause-told
returns-clause-told g c =
    told_with_other (g.S.Store.content c.args.files.now) _ _ _ _ c.in-Ok.ensures.content c.in-Ok.ensures.told c.part_answer.ensures.told
    (λ known came body. let asked = came c.args.settings.now in
    clip_asked (setup_of c.args.settings.now c.args.root.now known) c.args.range c.args.ask c.args.sequence c.args.asked (asking_view c.in-Ok.asking) c.part_answer.result _ _ _ c.requires.leaf asked.answered asked.logged body)
