use Rattle.std.proofs.Common.{inr}
use Rattle.vod_session.proofs.session.Session.step.Goals as goal

pub returns-in-Sending-clause-did : goal.returns-in-Sending-clause-did
returns-in-Sending-clause-did g c = λ answer told input text left written tells.
    let one = c.send.ensures.did tells input text left written in (one.0, one.1, one.2, one.3, inr (inr one.4))

pub returns-in-Idle-clause-did : goal.returns-in-Idle-clause-did
returns-in-Idle-clause-did g c = λ answer told input text left written tells. c.begin_reply.ensures.did answer told input text left written
