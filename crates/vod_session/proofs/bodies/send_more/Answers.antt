use Rattle.std.proofs.Common.{Bool, sym, subst}
use Rattle.vod_session.specs.Bodies.{Sends}
use Rattle.vod_session.proofs.BodyLemmas.{sends_plain}
use Rattle.vod_session.proofs.bodies.send_more.Goals as goal

pub returns-then-chunked-clause-sends : goal.returns-then-chunked-clause-sends
returns-then-chunked-clause-sends g c =
    subst (λ (chunked : Bool). Sends chunked (g.A.Answerer.rest (g.A.Answerer.kept c.args.a.now) c.args.cursor.now) (g.A.Answerer.rest (g.A.Answerer.kept c.more_in_chunks.new.a) c.more_in_chunks.new.cursor)
    (g.L.Sink.written c.args.link.now) (g.L.Sink.written c.more_in_chunks.new.link) c.more_in_chunks.result) (sym c.if-chunked.true) c.more_in_chunks.ensures.sends

pub returns-else-chunked-clause-sends : goal.returns-else-chunked-clause-sends
returns-else-chunked-clause-sends g c =
    subst (λ (chunked : Bool). Sends chunked (g.A.Answerer.rest (g.A.Answerer.kept c.args.a.now) c.args.cursor.now) (g.A.Answerer.rest (g.A.Answerer.kept c.more.new.self) c.more.new.cursor)
    (g.L.Sink.written c.args.link.now) (g.L.Sink.written c.more.new.sink) c.more.result) (sym c.if-chunked.false)
    (sends_plain (g.A.Answerer.rest (g.A.Answerer.kept c.args.a.now) c.args.cursor.now) (g.A.Answerer.rest (g.A.Answerer.kept c.more.new.self) c.more.new.cursor)
    (g.L.Sink.written c.args.link.now) (g.L.Sink.written c.more.new.sink) c.more.result c.more.ensures.advances)
