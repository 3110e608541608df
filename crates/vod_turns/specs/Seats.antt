-- Sessions in seats, each of which takes its turns on one link (this project's own).
use Rattle.std.specs.Prelude.{◌≡◌, ◌≢◌, ℕ, ◌+◌, ◌-◌, ◌*◌, ◌^◌, ◌<◌, ◌≤◌, min, Bool, List, ◌++◌, length, sum, sum_by, Option, Some, None, IsTrue, slice_get, slice_index}
use Rattle.vod_types.specs.declared.paths.ByteRange.{ByteRange}
use Rattle.list_model.specs.declared.Why.TheVariants as why
use Rattle.list_model.specs.Exchange.{IsServed}
use Rattle.list_model.specs.Reply.{Answer}
use Rattle.vod_source.specs.Causes.{Rose}
use Rattle.vod_http.specs.Answered.{Rest}
use Rattle.vod_session.specs.declared.state.LinkEnd.{LinkEnd}
use Rattle.vod_session.specs.Calls.{AreAnswers}
use Rattle.vod_session.specs.Sessions.{SessionValue, SendsOnly, fresh, is_under_way, steps_left}
use Rattle.vod_session.specs.Steps.{Answers}
use Rattle.vod_session.specs.Histories.{IsFront}
use Rattle.vod_turns.specs.declared.link_state.LinkState.{LinkState}
use Rattle.vod_turns.specs.declared.seats.Seat.{Seat}
use Rattle.vod_turns.specs.Histories.{IsAtTurn}

-- the session may take a step, unless it is over
pub record IsReady {C : Type 0} (belongs : C → Type 0) (runs in_packets : C → Bool) (seat : Seat C) : Type 0 where
  pub goes_on : seat.end ≡ None → IsTrue (is_under_way seat.session.state)
  pub sends : SendsOnly belongs runs in_packets seat.session.state

-- all sessions may
abbrev pub AreReady : {C : Type 0} → (C → Type 0) → (C → Bool) → (C → Bool) → List (Seat C) → Type 0
AreReady {C = C} belongs runs in_packets seats = (i : ℕ) (seat : Seat C) → slice_get seats i ≡ Some seat → IsReady belongs runs in_packets seat

-- nothing was taken or written yet
abbrev pub AreFresh : {C : Type 0} → List (Seat C) → Type 0
AreFresh {C = C} seats = (i : ℕ) (seat : Seat C) → slice_get seats i ≡ Some seat → (seat.session ≡ fresh C) × (seat.end ≡ None)

-- a bound on the steps that are left, by how the session ended if it did
abbrev pub left_at : {C : Type 0} → (C → ℕ) → SessionValue C → Option LinkEnd → ℕ
left_at calls_left session None = steps_left calls_left session + 1
left_at calls_left session (Some end) = 0

-- the same of a seat
abbrev pub seat_left : {C : Type 0} → (C → ℕ) → Seat C → ℕ
seat_left calls_left seat = left_at calls_left seat.session seat.end

-- no step more is left, and one fewer at least where the session wasn't over
abbrev pub Falls : Option LinkEnd → ℕ → ℕ → Type 0
Falls end before now = (now ≤ before) × (end ≡ None → now < before)

-- a bound on the steps that all have left
abbrev pub all_left : {C : Type 0} → (C → ℕ) → List (Seat C) → ℕ
all_left calls_left seats = sum_by (λ seat. seat_left calls_left seat) seats

-- one session at least isn't over
abbrev pub GoOn : {C : Type 0} → List (Seat C) → Type 0
GoOn {C = C} seats = (i : ℕ) × (seat : Seat C) × (slice_get seats i ≡ Some seat) × (seat.end ≡ None)

-- all are over
abbrev pub AreOver : {C : Type 0} → List (Seat C) → Type 0
AreOver {C = C} seats = (i : ℕ) (seat : Seat C) → slice_get seats i ≡ Some seat → (end : LinkEnd) × (seat.end ≡ Some end)

-- how far the session of a seat has come
abbrev pub state_of : {C : Type 0} → Seat C → LinkState
state_of seat = record { progress = seat.session.progress; end = seat.end }

-- these are the states of the seats
abbrev pub AreStates : {C : Type 0} → List (Seat C) → List LinkState → Type 0
AreStates {C = C} seats states = (i : ℕ) (seat : Seat C) (state : LinkState) → slice_get seats i ≡ Some seat → slice_get states i ≡ Some state → state ≡ state_of seat

-- these are the ends of the seats that are over
abbrev pub AreEnds : {C : Type 0} → List (Seat C) → List LinkEnd → Type 0
AreEnds {C = C} seats ends = (i : ℕ) (seat : Seat C) (end told : LinkEnd) → slice_get seats i ≡ Some seat → slice_get ends i ≡ Some told → seat.end ≡ Some end → told ≡ end

-- by how much a count rose, and at least by one where it may stand at its type's end
abbrev pub risen : ℕ → ℕ → ℕ
risen before now = (now - before) + (now - (2 ^ 64 - 2))

-- one more turn of this seat
pub record IsNext (n : ℕ) (turns turns_now : ℕ → ℕ) : Type 0 where
  pub more : turns_now n ≡ turns n + 1
  pub others : (i : ℕ) → i ≢ n → turns_now i ≡ turns i

-- what a session has done after so many turns, by how it ended if it did
abbrev pub HasDone : {C : Type 0} → Answers → (C → Option Rest) → List ℕ → List ℕ → List ℕ → SessionValue C → ℕ → ℕ → Option LinkEnd → Type 0
HasDone answer rest input text left session turns met None = (m : ℕ) × (m ≤ met) × IsAtTurn answer rest input text left session turns m
HasDone answer rest input text left session turns met (Some end) =
    IsServed answer input text end.requests end.why 0 met × IsFront answer input text met (turns - 1) × (length input ≤ length left + 8192 * turns)

-- A session after so many turns on its link, of which so many at most met a failure of the store.
pub record IsSeated
    {L C : Type 0} (left written : L → Option (List ℕ)) (count : L → ℕ) (tells : List ℕ → Option ByteRange → Option Answer) (rest : C → Option Rest)
    (link link_now : L) (seat : Seat C) (turns met faults faults_now : ℕ) : Type 0 where
  pub counted : faults ≤ faults_now
  pub come : seat.end ≡ None → min turns (2 ^ 64 - 1) ≤ seat.session.progress
  pub untouched : turns ≡ 0 → link_now ≡ link
  pub later : count link ≤ count link_now
  pub link_failed : (end : LinkEnd) → seat.end ≡ Some end → end.why ≡ why.LinkFailed → Rose (count link) (count link_now)
  pub store_failed : (end : LinkEnd) → seat.end ≡ Some end → end.why ≡ why.StoreFailed → Rose faults faults_now
  pub memory : (end : LinkEnd) → seat.end ≡ Some end → end.why ≢ why.NoMemory
  pub told : (answer : Answers) → AreAnswers tells answer → (input text : List ℕ) → left link ≡ Some input → written link ≡ Some text →
      (more after : List ℕ) × (left link_now ≡ Some after) × (written link_now ≡ Some (text ++ more))
      × HasDone answer rest input more after seat.session turns met seat.end

-- Sessions after so many turns of each. All of them together met no more failures of the store than were counted.
pub record AreSeated
    {L C : Type 0} (left written : L → Option (List ℕ)) (count : L → ℕ) (tells : List ℕ → Option ByteRange → Option Answer) (rest : C → Option Rest)
    (links links_now : List L) (seats : List (Seat C)) (turns : ℕ → ℕ) (faults faults_now : ℕ) : Type 0 where
  pub met : List ℕ
  pub long : length met ≡ length links
  pub each : (i : ℕ) (link link_now : L) (seat : Seat C) →
      slice_get links i ≡ Some link → slice_get links_now i ≡ Some link_now → slice_get seats i ≡ Some seat →
      IsSeated left written count tells rest link link_now seat (turns i) (slice_index met i) faults faults_now
  pub together : faults_now < 2 ^ 64 - 1 → faults + sum met ≤ faults_now
