use Rattle.std.proofs.Common.{subst}
use Rattle.vod_session.specs.Bodies.{Ends}
use Rattle.vod_session.proofs.SendLemmas.{sent_did}
use Rattle.vod_session.proofs.session.Session.send.Goals as goal

pub returns-in-Sending-clause-did : goal.returns-in-Sending-clause-did
returns-in-Sending-clause-did g c =
    let rest = g.A.Answerer.rest (g.A.Answerer.kept c.args.a.now) in
    let sending = c.in-Sending.sending in
    let cursor = c.send_body-step.new.cursor in
    let written = g.L.Sink.written c.args.link.now in
    let written_now = g.L.Sink.written c.send_body-step.new.link in
    sent_did rest c.args.self.now _ sending cursor c.self.view_is c.in-Sending.is (g.A.Answerer.faults c.args.a.now) (g.A.Answerer.faults c.send_body-step.new.a)
    (g.L.Link.left c.args.link.now) (g.L.Link.left c.send_body-step.new.link) written written_now c.send_body-step.result c.after_send.result c.after_send.new.self
    (g.met.L.Link.left_by_kept c.send_body-step.new.link c.args.link.now c.send_body-step.ensures.link_kept)
    c.send_body-step.ensures.store_failed
    (subst (λ (k : g.A.Answerer.Kept). Ends sending.chunked (rest sending.cursor) (g.A.Answerer.rest k cursor) written written_now c.send_body-step.result) c.send_body-step.ensures.kept c.send_body-step.ensures.ends)
    c.after_send.ensures
