use Rattle.std.proofs.Common.{◌≡◌, ap, ◌∙◌, subst, inl, inr, arith, length}
use Rattle.vod_types.specs.declared.refusal.Refusal.TheVariants.{BadHead, HeadTooLong}
use Rattle.list_model.specs.Exchange.{refusal}
use Rattle.list_model.specs.Head.{IsUnfinished}
use Rattle.vod_session.specs.Sessions.{SessionValue}
use Rattle.vod_session.proofs.SessionLemmas.{idle_is}
use Rattle.vod_session.proofs.session.Session.begin_reply.Goals as goal

pub returns-in-Whole-clause-did : goal.returns-in-Whole-clause-did
returns-in-Whole-clause-did g c = λ answer told input text left written.
    let one = c.reply.ensures.did answer told input text left written in (one.0, one.1, one.2, one.3, inr (inl one.4))

pub returns-in-Bad-clause-did : goal.returns-in-Bad-clause-did
returns-in-Bad-clause-did g c = λ answer told input text left written.
    let one = c.refuse_bytes.ensures.did answer (g.A.Answerer.rest (g.A.Answerer.kept c.args.a.now)) (g.A.Answerer.faults c.args.a.now) (g.A.Answerer.faults c.args.a.now) input text left written in
    (one.0, one.1, one.2, one.3, inr (inl (refusal BadHead, one.4)))

pub returns-in-TooMany-clause-did : goal.returns-in-TooMany-clause-did
returns-in-TooMany-clause-did g c = λ answer told input text left written.
    let one = c.refuse_bytes-in-TooMany.ensures.did answer (g.A.Answerer.rest (g.A.Answerer.kept c.args.a.now)) (g.A.Answerer.faults c.args.a.now) (g.A.Answerer.faults c.args.a.now) input text left written in
    (one.0, one.1, one.2, one.3, inr (inl (refusal HeadTooLong, one.4)))

pub returns-then-bytes-lt-ROOM-clause-did : goal.returns-then-bytes-lt-ROOM-clause-did
returns-then-bytes-lt-ROOM-clause-did g c = λ answer told input text left written.
    let before = c.args.self.now in
    let one = c.take.ensures.did input text left written in
    let room : c.bytes.result.now ≡ before.room = c.bytes.ensures.bytes ∙ ap (λ (v : SessionValue _). v.room) c.self.view_is in
    let again : c.bytes-in-More.result.now ≡ before.room = c.bytes-in-More.ensures.bytes ∙ ap (λ (v : SessionValue _). v.room) c.self.view_is in (
      one.0,
      one.1,
      one.2,
      one.3,
      inl (record {
        idle = idle_is before.state c.requires.idle;
        unfinished = (omega (arith, ap length again, c.if-bytes-lt-ROOM.true), subst IsUnfinished room c.in-More.ensures);
        silent = one.4.0;
        taken = one.4.1;
      }),
    )

pub returns-else-bytes-lt-ROOM-clause-did : goal.returns-else-bytes-lt-ROOM-clause-did
returns-else-bytes-lt-ROOM-clause-did g c = λ answer told input text left written.
    let one = c.refuse_bytes-else-bytes-lt-ROOM.ensures.did answer (g.A.Answerer.rest (g.A.Answerer.kept c.args.a.now)) (g.A.Answerer.faults c.args.a.now) (g.A.Answerer.faults c.args.a.now) input text left written in
    (one.0, one.1, one.2, one.3, inr (inl (refusal HeadTooLong, one.4)))
