use Rattle.std.proofs.Common.{refl}
use Rattle.vod_source.proofs.CallLemmas.{told_with_all, told_with_other}
use Rattle.origin_model.specs.Outcomes.{settings_named, settings_reads}
use Rattle.vod_app.specs.Services.{answers_with}
use Rattle.vod_app.proofs.ServiceLemmas.{does_named, does_unread, logs_unread}
use Rattle.vod_app.proofs.serves.serve.Goals as goal

pub returns-in-Ok-clause-served : goal.returns-in-Ok-clause-served
returns-in-Ok-clause-served g c =
    told_with_other _ _ _ _ _ c.in-Ok.ensures.content c.in-Ok.ensures.told c.serve_with.ensures.served
    (λ files read does. does_named g.D.L.Link.left g.D.L.Sink.written (answers_with files c.args.service.root.now) c.args.service.count _ _
    c.in-Ok.settings (settings_named files c.args.service.settings.now) c.args.service.order _ _ _ _ read.answered c.in-Ok.ensures.later does)

pub returns-in-Err-clause-served : goal.returns-in-Err-clause-served
returns-in-Err-clause-served g c =
    told_with_all (g.S.Store.content c.args.store) _ _ c.in-Err.ensures.told
    (λ files read. does_unread g.D.L.Link.left g.D.L.Sink.written (answers_with files c.args.service.root.now) c.args.service.count _ _
    (settings_named files c.args.service.settings.now) c.args.service.order _ _ _ refl c.in-Err.refusal c.refused.ensures read.answered)

pub returns-in-Err-clause-logged : goal.returns-in-Err-clause-logged
returns-in-Err-clause-logged g c =
    told_with_all (g.S.Store.content c.args.store) _ _ c.in-Err.ensures.told
    (λ files read. logs_unread (settings_reads files c.args.service.settings.now) _ _ _ c.in-Err.refusal c.refused.ensures read.logged)
