-- The step of a body that is made, which reads nothing.
use Rattle.vod_origin.proofs.origin.Origin.step.Goals as goal

pub returns-in-Made-clause-steps : goal.returns-in-Made-clause-steps
returns-in-Made-clause-steps g c = rw c.in-Made.is (c.next.ensures.steps (g.S.Store.content c.args.self.now.store))
