-- What one call of the answerer sends of a body, in chunks or as it is (this project's own).
use Rattle.std.specs.Prelude.{◌≡◌, ℕ, ◌%◌, Bool, true, List, ◌++◌, length, Option, Some}
use Rattle.list_model.specs.Reply.{whole, bad_nal}
use Rattle.vod_source.specs.declared.step.Step.{Step}
use Rattle.vod_source.specs.declared.step.Step.TheVariants.{Again, Whole, BadNal, StoreFailed, SinkFailed}
use Rattle.vod_http.specs.Answered.{Rest}
use Rattle.vod_session.specs.Steps.{sent_as, end_sent}

-- what was sent behind a text is the front of a body
abbrev pub IsFrontSent : Bool → List ℕ → List ℕ → Option (List ℕ) → Type 0
IsFrontSent chunked bytes before now = (text : List ℕ) × (more : List ℕ) × (now ≡ Some (before ++ text)) × (text ++ more ≡ sent_as chunked bytes)

-- what was sent behind a text of a rest, and the rest after it
abbrev pub SendsOf : Bool → Rest → Option Rest → List ℕ → Option (List ℕ) → Step → Type 0
SendsOf chunked rest after before now Again =
    (front : List ℕ) × (back : List ℕ) × (rest.0 ≡ front ++ back) × (chunked ≡ true → length front % 188 ≡ 0) × (after ≡ Some (back, rest.1))
    × (now ≡ Some (before ++ sent_as chunked front))
SendsOf chunked rest after before now Whole = (rest.1 ≡ whole) × (now ≡ Some (before ++ sent_as chunked rest.0))
SendsOf chunked rest after before now (BadNal file sample) = (rest.1 ≡ bad_nal file sample) × (now ≡ Some (before ++ sent_as chunked rest.0))
SendsOf chunked rest after before now StoreFailed = IsFrontSent chunked rest.0 before now
SendsOf chunked rest after before now SinkFailed = IsFrontSent chunked rest.0 before now

-- the same where the rest and what was written are told
abbrev pub Sends : Bool → Option Rest → Option Rest → Option (List ℕ) → Option (List ℕ) → Step → Type 0
Sends chunked rest after written written_now step = (r : Rest) (text : List ℕ) → rest ≡ Some r → written ≡ Some text → SendsOf chunked r after text written_now step

-- the same with what is sent behind a whole body, as far as the link took it
abbrev pub EndsOf : Bool → Rest → Option Rest → List ℕ → Option (List ℕ) → Step → Type 0
EndsOf chunked rest after before now Again = SendsOf chunked rest after before now Again
EndsOf chunked rest after before now Whole = (rest.1 ≡ whole) × (now ≡ Some (before ++ (sent_as chunked rest.0 ++ end_sent chunked rest.1)))
EndsOf chunked rest after before now (BadNal file sample) = SendsOf chunked rest after before now (BadNal file sample)
EndsOf chunked rest after before now StoreFailed = SendsOf chunked rest after before now StoreFailed
EndsOf chunked rest after before now SinkFailed =
    (text : List ℕ) × (more : List ℕ) × (now ≡ Some (before ++ text)) × (text ++ more ≡ sent_as chunked rest.0 ++ end_sent chunked rest.1)

abbrev pub Ends : Bool → Option Rest → Option Rest → Option (List ℕ) → Option (List ℕ) → Step → Type 0
Ends chunked rest after written written_now step = (r : Rest) (text : List ℕ) → rest ≡ Some r → written ≡ Some text → EndsOf chunked r after text written_now step
