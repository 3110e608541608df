use Rattle.vod_app.proofs.ServiceLemmas.{does_none}
use Rattle.vod_app.proofs.serves.serve_at.Goals as goal

pub returns-then-is_err-clause-served : goal.returns-then-is_err-clause-served
returns-then-is_err-clause-served g c = λ answers settings told.
    does_none g.D.L.Link.left g.D.L.Sink.written answers c.args.service.count _ _ settings c.args.service.order (g.A.Answerer.faults c.args.a.now)
    c.listen.ensures.coming c.listen.ensures.returned c.listen.ensures.out
