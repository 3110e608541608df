-- Where a session stands behind what a step did (this project's own).
use Rattle.std.specs.Prelude.{◌≡◌, ℕ, ◌+◌, Bool, true, false, drop, ⊤}
use Rattle.list_model.specs.declared.Why.{Why}
use Rattle.list_model.specs.declared.Why.TheVariants as why
use Rattle.vod_source.specs.declared.step.Step.{Step}
use Rattle.vod_source.specs.declared.step.Step.TheVariants as went
use Rattle.vod_session.specs.declared.replies.Put.{Put}
use Rattle.vod_session.specs.declared.replies.Put.TheVariants.{All, Head, Cut}
use Rattle.vod_session.specs.declared.state.Sending.{Sending}
use Rattle.vod_session.specs.declared.state.State.{State}
use Rattle.vod_session.specs.declared.state.State.TheVariants as at
use Rattle.vod_session.specs.declared.state.Turn as step
use Rattle.vod_session.specs.declared.state.Turn.TheVariants.{Again, Ended}
use Rattle.vod_session.specs.Sessions.{SessionValue, raised_by}

-- the step ended the connection
abbrev pub IsEndOfLink : step.Turn → Type 0
IsEndOfLink Again = ⊥
IsEndOfLink (Ended end) = ⊤

-- nothing is being sent, and the connection isn't over
abbrev pub IsIdle : {C : Type 0} → State C → Type 0
IsIdle at.Idle = ⊤
IsIdle (at.Sending sending) = ⊥
IsIdle at.Ended = ⊥

-- nothing is being sent
abbrev pub SendsNothing : {C : Type 0} → State C → Type 0
SendsNothing at.Idle = ⊤
SendsNothing (at.Sending sending) = ⊥
SendsNothing at.Ended = ⊤

-- a body is being sent
abbrev pub IsSending : {C : Type 0} → State C → Type 0
IsSending at.Idle = ⊥
IsSending (at.Sending sending) = ⊤
IsSending at.Ended = ⊥

-- a body is being sent, behind which the connection closes or not
abbrev pub SendsUntil : {C : Type 0} → Bool → State C → Type 0
SendsUntil close at.Idle = ⊥
SendsUntil close (at.Sending sending) = sending.close ≡ close
SendsUntil close at.Ended = ⊥

module _ {C : Type 0} where
  -- the connection is over for this reason
  abbrev pub ended_by : SessionValue C → Why → SessionValue C × step.Turn
  ended_by session w = (record session { state = at.Ended }, Ended (record { requests = session.requests; why = w }))

  -- progress was made, by so much
  abbrev pub further : SessionValue C → ℕ → SessionValue C
  further session n = record session { progress = raised_by n session.progress }

  -- behind a call of the answerer
  abbrev pub after_send : SessionValue C → Step → Bool → SessionValue C × step.Turn
  after_send session went.Again close = (further session 1, Again)
  after_send session went.Whole true = ended_by (further session 1) why.Closed
  after_send session went.Whole false = (record (further session 1) { state = at.Idle }, Again)
  after_send session (went.BadNal file sample) close = ended_by session (why.BadNal sample)
  after_send session went.StoreFailed close = ended_by session why.StoreFailed
  after_send session went.SinkFailed close = ended_by session why.LinkFailed

  -- a reply's head was written whole
  abbrev pub counted : SessionValue C → SessionValue C
  counted session = record session { requests = session.requests + 1; progress = raised_by 1 session.progress }

  -- behind a whole reply, whose request took so many bytes of the room
  abbrev pub after_put : SessionValue C → ℕ → Put → Bool → SessionValue C × step.Turn
  after_put session used All true = ended_by (counted session) why.Closed
  after_put session used All false = (record (counted session) { room = drop used session.room }, Again)
  after_put session used Head close = ended_by (counted session) why.LinkFailed
  after_put session used Cut close = ended_by session why.LinkFailed

  -- behind the head of a reply, whose body is to come
  abbrev pub after_begin : SessionValue C → ℕ → Put → Sending C → SessionValue C × step.Turn
  after_begin session used All sending = (record (counted session) { room = drop used session.room; state = at.Sending sending }, Again)
  after_begin session used Head sending = ended_by (counted session) why.LinkFailed
  after_begin session used Cut sending = ended_by session why.LinkFailed
