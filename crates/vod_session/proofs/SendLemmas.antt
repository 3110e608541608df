-- What a session does where it sends more of a body.
use Rattle.std.proofs.Common.{◌≡◌, ℕ, Bool, true, false, Option, Some, List, ◌++◌, refl, sym, ap, ◌∙◌, subst, inl, inr, arith}
use Rattle.vod_source.specs.Causes.{Rose}
use Rattle.vod_source.specs.declared.step.Step.{Step}
use Rattle.vod_source.specs.declared.step.Step.TheVariants as went
use Rattle.vod_http.specs.Answered.{Rest}
use Rattle.vod_session.specs.declared.state.Sending.{Sending}
use Rattle.vod_session.specs.declared.state.State.TheVariants as at
use Rattle.vod_session.specs.declared.state.Turn as turn_of
use Rattle.vod_session.specs.Bodies.{EndsOf, Ends}
use Rattle.vod_session.specs.Calls.{IsToldBy, TellsRest}
use Rattle.vod_session.specs.Sessions.{SessionValue, raised_by}
use Rattle.vod_session.specs.Steps.{sent_as, end_sent, IsSent, Sent}
use Rattle.vod_session.specs.Turns.{further, after_send}

module _ {C : Type 0} (rest : C → Option Rest) (before view : SessionValue C) (sending : Sending C) (cursor : C)
    (view_is : view ≡ before) (viewed : view.state ≡ at.Sending sending)
    (faults faults_now : ℕ)
  where
    was : before.state ≡ at.Sending sending
    was = ap (λ (v : SessionValue C). v.state) (sym view_is) ∙ viewed

    abbrev middle : SessionValue C
    middle = record view { state = at.Sending (record { cursor = cursor; chunked = sending.chunked; close = sending.close }) }

    between : middle ≡ record before { state = at.Sending (record { cursor = cursor; chunked = sending.chunked; close = sending.close }) }
    between = ap (λ (v : SessionValue C). record v { state = at.Sending (record { cursor = cursor; chunked = sending.chunked; close = sending.close }) }) view_is

    sent_by : (r : Rest) (before_text : List ℕ) (now : Option (List ℕ)) (step : Step) (close : Bool) → sending.close ≡ close → (step ≡ went.StoreFailed → Rose faults faults_now) →
        EndsOf sending.chunked r (rest cursor) before_text now step →
        (text : List ℕ) × (now ≡ Some (before_text ++ text)) × IsSent rest before (after_send middle step close).0 sending r.0 r.1 text faults faults_now (after_send middle step close).1
    sent_by r t now went.Again close closes rose did = (
      sent_as sending.chunked did.0,
      did.5,
      inl (record {
        front = did.0;
        back = did.1;
        cursor = cursor;
        split = did.2;
        packets = did.3;
        rest_is = did.4;
        text_is = refl;
        now_is = ap (λ (m : SessionValue C). further m 1) between;
      }),
    )
    sent_by r t now went.Whole true closes rose did = (
      sent_as sending.chunked r.0 ++ end_sent sending.chunked r.1,
      did.1,
      (ap (λ (m : SessionValue C). m.requests) between, (record { end_is = did.0; text_is = refl }, closes, ap (λ (m : SessionValue C). raised_by 1 m.progress) between)),
    )
    sent_by r t now went.Whole false closes rose did = (
      sent_as sending.chunked r.0 ++ end_sent sending.chunked r.1,
      did.1,
      inr (record { end_is = did.0; text_is = refl }, closes, ap (λ (m : SessionValue C). (after_send m went.Whole false).0) between),
    )
    sent_by r t now (went.BadNal file sample) close closes rose did = (
      sent_as sending.chunked r.0,
      did.1,
      (ap (λ (m : SessionValue C). m.requests) between, (file, did.0, refl, ap (λ (m : SessionValue C). m.progress) between)),
    )
    sent_by r t now went.StoreFailed close closes rose did = (
      did.0,
      did.2,
      (ap (λ (m : SessionValue C). m.requests) between, (did.1, did.3, ap (λ (m : SessionValue C). m.progress) between, rose refl)),
    )
    sent_by r t now went.SinkFailed close closes rose did = (
      did.0,
      did.2,
      (
        ap (λ (m : SessionValue C). m.requests) between,
        (did.1, did.3, let same : middle.progress ≡ before.progress = ap (λ (m : SessionValue C). m.progress) between in omega (arith, same)),
      ),
    )

    -- and so on a link that tells its input, which no `put` changes
    pub sent_did : (left left_now written written_now : Option (List ℕ)) (step : Step) (turn : turn_of.Turn) (now : SessionValue C) → left_now ≡ left → (step ≡ went.StoreFailed → Rose faults faults_now) →
        Ends sending.chunked (rest sending.cursor) (rest cursor) written written_now step → (now, turn) ≡ after_send middle step sending.close → TellsRest rest before.state →
        IsToldBy (λ input after text. Sent rest before now input after text faults faults_now turn) left left_now written written_now
    sent_did left left_now written written_now step turn now kept rose ends after tells = λ input text left_is written_is.
        let tells_it : TellsRest rest (at.Sending sending) = subst (TellsRest rest) was tells in
        let sent = sent_by tells_it.0 text written_now step sending.close refl rose (ends tells_it.0 text tells_it.1 written_is) in (
          sent.0,
          input,
          kept ∙ left_is,
          sent.1,
          record {
            sending = sending;
            bytes = tells_it.0.0;
            end = tells_it.0.1;
            under_way = was;
            left_of = tells_it.1;
            kept = refl;
            sent = subst (λ (r : SessionValue C × turn_of.Turn). IsSent rest before r.0 sending tells_it.0.0 tells_it.0.1 sent.0 faults faults_now r.1) (sym after) sent.2;
          },
        )
