use Rattle.vod_session.proofs.BodyLemmas.{whole_ends, whole_cut, other_ends}
use Rattle.vod_session.proofs.bodies.send_body.Goals as goal

pub returns-in-Ok-clause-ends : goal.returns-in-Ok-clause-ends
returns-in-Ok-clause-ends g c =
    whole_ends c.args.chunked (g.A.Answerer.rest (g.A.Answerer.kept c.args.a.now) c.args.cursor.now) (g.A.Answerer.rest (g.A.Answerer.kept c.send_more.new.a) c.send_more.new.cursor)
    (g.L.Sink.written c.args.link.now) (g.L.Sink.written c.send_more.new.link) (g.L.Sink.written c.end_body.new.link) c.in-Whole.ensures.sends c.in-Ok.ensures.written

pub returns-in-Err-clause-ends : goal.returns-in-Err-clause-ends
returns-in-Err-clause-ends g c =
    whole_cut c.args.chunked (g.A.Answerer.rest (g.A.Answerer.kept c.args.a.now) c.args.cursor.now) (g.A.Answerer.rest (g.A.Answerer.kept c.send_more.new.a) c.send_more.new.cursor)
    (g.L.Sink.written c.args.link.now) (g.L.Sink.written c.send_more.new.link) (g.L.Sink.written c.end_body.new.link) c.in-Whole.ensures.sends c.in-Err.ensures.written

pub returns-in_default-clause-ends : goal.returns-in_default-clause-ends
returns-in_default-clause-ends g c =
    other_ends c.args.chunked (g.A.Answerer.rest (g.A.Answerer.kept c.args.a.now) c.args.cursor.now) (g.A.Answerer.rest (g.A.Answerer.kept c.send_more.new.a) c.send_more.new.cursor)
    (g.L.Sink.written c.args.link.now) (g.L.Sink.written c.send_more.new.link) c.send_more.result c.in_default.not-Whole c.send_more.ensures.sends
