use Rattle.std.proofs.Common.{◌+◌, [], refl, true, false}
use Rattle.list_model.specs.Text.{line}
use Rattle.list_model.specs.Exchange.{refusal}
use Rattle.list_model.specs.Reply.{refusal_head, refusal_text}
use Rattle.vod_session.proofs.RepliedLemmas.{put_did}
use Rattle.vod_session.proofs.TurnTexts.{bytes_head, bytes_rest, bytes_end}
use Rattle.vod_session.proofs.SessionLemmas.{idle_is}
use Rattle.vod_session.proofs.session.Session.refuse_bytes.Goals as goal

pub returns-clause-did : goal.returns-clause-did
returns-clause-did g c = λ answer rest faults faults_now.
    let before = c.args.self.now in
    let r = c.args.refusal.now in
    put_did answer rest before (refusal r) (refusal_head r false true) (line (refusal_text r)) [] c.requires.small (bytes_head answer r (before.requests + 1)) (bytes_rest answer r)
    (idle_is before.state c.requires.idle) c.requires.fits 0 c.requires.refused tt faults faults_now (λ fault. absurd cc) c.put_refusal-put.result
    (g.L.Link.left c.args.link.now) (g.L.Link.left c.put_refusal-put.new.link) (g.L.Sink.written c.args.link.now) (g.L.Sink.written c.put_refusal-put.new.link)
    (g.met.L.Link.left_by_kept c.put_refusal-put.new.link c.args.link.now c.put_refusal-put.ensures.kept) c.put_refusal-put.ensures.put
    true c.after_put.new.self c.after_put.result refl (bytes_end answer r (before.requests + 1)) c.after_put.ensures
