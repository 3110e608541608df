-- The answer is the body that was written, as far as it came, or what the request was refused with.
use Rattle.vod_app.proofs.BodyLemmas.{through_body, through_refused}
use Rattle.vod_app.proofs.answers.write_through.Goals as goal

pub returns-in-Body-clause-wrote : goal.returns-in-Body-clause-wrote
returns-in-Body-clause-wrote g c =
    through_body c.args.origin.now.settings c.args.origin.now.root (g.S.Store.content c.args.origin.now.store) _ c.args.path.now _ _ _ c.in-Body.cursor _ _ _ _ _ _ _ _ c.reply.ensures.content
    c.requires.new c.in-Body.ensures.begins c.in-Body.ensures.reads c.write_body.ensures.wrote c.write_body.ensures.read

pub returns-in-Refused-clause-wrote : goal.returns-in-Refused-clause-wrote
returns-in-Refused-clause-wrote g c =
    through_refused c.args.origin.now.settings c.args.origin.now.root (g.S.Store.content c.args.origin.now.store) c.args.path.now _ _ c.in-Refused.refusal _ _ _ _ _ _ c.refused.ensures c.requires.new c.in-Refused.ensures.replies c.in-Refused.ensures.reads
