use Rattle.std.proofs.Common.{◌≡◌, Option, List, ℕ, IfSome, sym, ap, ◌∙◌, subst}
use Rattle.vod_types.specs.declared.paths.ByteRange.{ByteRange}
use Rattle.list_model.specs.Head.{IsHead}
use Rattle.list_model.specs.Ranges.{IsByteRange}
use Rattle.list_model.proofs.RangeLemmas.{asked_range-kept}
use Rattle.vod_session.specs.Sessions.{SessionValue}
use Rattle.vod_session.proofs.RequestReplies.{refused_did, head_did, begun_did}
use Rattle.vod_session.proofs.session.Session.reply.Goals as goal

pub answer-requires-clause-range : goal.answer-requires-clause-range
answer-requires-clause-range g c =
    subst (λ (r : Option ByteRange). IfSome r IsByteRange) (sym c.requires.head.1.range) (asked_range-kept c.requires.head.0)

pub returns-in-Refused-clause-did : goal.returns-in-Refused-clause-did
returns-in-Refused-clause-did g c = λ answer told.
    let before = c.args.self.now in
    let head = c.args.head.now in
    let h = c.requires.head.0 in
    let is = c.requires.head.1 in
    let bytes : c.bytes.result.now ≡ before.room = c.bytes.ensures.bytes ∙ ap (λ (v : SessionValue _). v.room) c.self.view_is in
    refused_did answer (g.A.Answerer.rest (g.A.Answerer.kept c.args.a.now)) before _ c.self.view_is head h is c.requires.idle c.requires.fits c.requires.small
    c.closes-close.result c.closes-close.ensures (g.A.Answerer.faults c.args.a.now) (g.A.Answerer.faults c.answer.new.a) c.put_refusal-put.result
    (g.L.Link.left c.args.link.now) (g.L.Link.left c.put_refusal-put.new.link) (g.L.Sink.written c.args.link.now) (g.L.Sink.written c.put_refusal-put.new.link)
    (g.met.L.Link.left_by_kept c.put_refusal-put.new.link c.args.link.now c.put_refusal-put.ensures.kept)
    c.in-Refused.why c.is_head.result c.after_put.new.self c.after_put.result
    (c.in-Refused.ensures.answered answer told h (subst (λ (b : List ℕ). IsHead b head h) (sym bytes) is)) c.is_head.ensures c.put_refusal-put.ensures.put c.after_put.ensures

pub returns-in-Get-clause-did : goal.returns-in-Get-clause-did
returns-in-Get-clause-did g c = λ answer told.
    let before = c.args.self.now in
    let head = c.args.head.now in
    let h = c.requires.head.0 in
    let is = c.requires.head.1 in
    let bytes : c.bytes.result.now ≡ before.room = c.bytes.ensures.bytes ∙ ap (λ (v : SessionValue _). v.room) c.self.view_is in
    begun_did answer (g.A.Answerer.rest (g.A.Answerer.kept c.args.a.now)) before _ c.self.view_is head h is c.requires.idle c.requires.fits c.requires.small
    c.closes-close.result c.closes-close.ensures (g.A.Answerer.faults c.args.a.now) (g.A.Answerer.faults c.answer.new.a) c.put_head-put.result
    (g.L.Link.left c.args.link.now) (g.L.Link.left c.put_head-put.new.link) (g.L.Sink.written c.args.link.now) (g.L.Sink.written c.put_head-put.new.link)
    (g.met.L.Link.left_by_kept c.put_head-put.new.link c.args.link.now c.put_head-put.ensures.kept)
    c.in-Body.kind c.in-Body.length c.in-Body.part c.in-Body.cursor
    (c.in-Body.ensures.answered answer told h (subst (λ (b : List ℕ). IsHead b head h) (sym bytes) is)) c.put_head-put.ensures.put
    c.goes_chunked-chunked.result c.after_begin.new.self c.after_begin.result c.in-Get.is c.goes_chunked-chunked.ensures c.after_begin.ensures

pub returns-in_default-clause-did : goal.returns-in_default-clause-did
returns-in_default-clause-did g c = λ answer told.
    let before = c.args.self.now in
    let head = c.args.head.now in
    let h = c.requires.head.0 in
    let is = c.requires.head.1 in
    let bytes : c.bytes.result.now ≡ before.room = c.bytes.ensures.bytes ∙ ap (λ (v : SessionValue _). v.room) c.self.view_is in
    head_did answer (g.A.Answerer.rest (g.A.Answerer.kept c.args.a.now)) before _ c.self.view_is head h is c.requires.idle c.requires.fits c.requires.small
    c.closes-close.result c.closes-close.ensures (g.A.Answerer.faults c.args.a.now) (g.A.Answerer.faults c.answer.new.a) c.put_head-put.result
    (g.L.Link.left c.args.link.now) (g.L.Link.left c.put_head-put.new.link) (g.L.Sink.written c.args.link.now) (g.L.Sink.written c.put_head-put.new.link)
    (g.met.L.Link.left_by_kept c.put_head-put.new.link c.args.link.now c.put_head-put.ensures.kept)
    c.in-Body.kind c.in-Body.length c.in-Body.part c.in-Body.cursor
    (c.in-Body.ensures.answered answer told h (subst (λ (b : List ℕ). IsHead b head h) (sym bytes) is)) c.put_head-put.ensures.put
    c.after_put-in_default.new.self c.after_put-in_default.result c.in_default.not-Get c.after_put-in_default.ensures
