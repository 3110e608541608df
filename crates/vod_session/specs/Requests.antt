-- What a request is answered with (this project's own).
use Rattle.std.specs.Prelude.{◌≡◌, ◌≢◌, ℕ, Option, None, Some, Ok, Err, true, ⊤}
use Rattle.httparse.specs.Grammar.{RequestHead}
use Rattle.vod_types.specs.Refusals.{refusal_status}
use Rattle.list_model.specs.declared.Verb.TheVariants as verbs
use Rattle.list_model.specs.Head.{verb_of}
use Rattle.list_model.specs.Reply.{Body}
use Rattle.list_model.specs.Exchange.{Given, due, no_memory, no_store, broken_after, request, IsAllowed, meets_store_fault, turn_answer, refusal_of_head}
use Rattle.vod_source.specs.Causes.{Rose}
use Rattle.vod_http.specs.Answered.{Rest}
use Rattle.vod_http.specs.declared.answerer.Reply.{Reply}
use Rattle.vod_http.specs.declared.answerer.Reply.TheVariants as reply
use Rattle.vod_session.specs.Steps.{Answers}

-- the reply is whole, however the request fared
abbrev pub IsUnbroken : Given → Type 0
IsUnbroken due = ⊤
IsUnbroken no_memory = ⊤
IsUnbroken no_store = ⊤
IsUnbroken (broken_after n) = ⊥

-- the answer to a request, or want of memory or a failure of the store, which was counted
abbrev pub IsAnswered : {C : Type 0} → Answers → (C → Option Rest) → RequestHead → ℕ → ℕ → Reply C → Type 0
IsAnswered answer rest h before now (reply.Refused why) =
    (given : Given) × IsAllowed answer (request h given) × (meets_store_fault (request h given) ≡ true → Rose before now) × IsUnbroken given
    × (turn_answer answer h given ≡ Err why)
IsAnswered answer rest h before now (reply.Body kind length part cursor) =
    (body : Body) × (refusal_of_head h ≡ None) × (turn_answer answer h due ≡ Ok body) × (body.kind ≡ kind) × (body.length ≡ length) × (body.part ≡ part)
    × (verb_of h.method ≡ verbs.Get → rest cursor ≡ Some (body.bytes, body.end))

-- a refusal has a status that is sent
abbrev pub HasStatus : {C : Type 0} → Reply C → Type 0
HasStatus (reply.Refused why) = refusal_status why ≢ 0
HasStatus (reply.Body kind length part cursor) = ⊤
