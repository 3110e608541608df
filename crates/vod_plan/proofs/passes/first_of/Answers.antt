use Rattle.std.proofs.Common.{sym, ◌∙◌}
use Rattle.vod_plan.proofs.PassLemmas.{turn_audio, turn_video}
use Rattle.vod_plan.proofs.passes.first_of.Goals as goal

pub returns-then-audio_first-clause-turn : goal.returns-then-audio_first-clause-turn
returns-then-audio_first-clause-turn c = turn_audio c.args.form c.args.video c.args.audio (sym c.audio_first.ensures ∙ c.if-audio_first.true)

pub returns-else-audio_first-clause-turn : goal.returns-else-audio_first-clause-turn
returns-else-audio_first-clause-turn c = turn_video c.args.form c.args.video c.args.audio (sym c.audio_first.ensures ∙ c.if-audio_first.false)
