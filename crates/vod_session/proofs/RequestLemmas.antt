-- What a request is answered with, from what the answerer says.
use Rattle.std.proofs.Common.{◌≡◌, ℕ, Bool, false, Option, Some, None, MatchOption, IfSome, Ok, Err, refl, sym, ap, ◌∙◌, subst}
use Rattle.std.specs.Prelude.{if◌then◌else◌}
use Rattle.httparse.specs.Grammar.{RequestHead}
use Rattle.vod_types.specs.declared.media.Media.{Media}
use Rattle.vod_types.specs.declared.paths.ByteRange.{ByteRange}
use Rattle.vod_types.specs.declared.refusal.Refusal.{Refusal}
use Rattle.vod_types.specs.declared.refusal.Refusal.TheVariants as refusals
use Rattle.list_model.specs.declared.Verb.{Verb}
use Rattle.list_model.specs.declared.Verb.TheVariants as verbs
use Rattle.list_model.specs.Head.{verb_of, has_body, asked_range}
use Rattle.list_model.specs.Reply.{Answer}
use Rattle.list_model.specs.Exchange.{Given, due, no_memory, no_store, request, given_answer, MayBeGiven, IsAllowed, turn_answer, refusal_of_verb, refusal_of_head}
use Rattle.vod_http.specs.Answered.{Rest, rest_of, IsRefused, IsHeadOf, IsReply, IfBegun}
use Rattle.vod_http.specs.declared.answerer.Reply.{Reply}
use Rattle.vod_http.specs.declared.answerer.Reply.TheVariants as reply
use Rattle.vod_session.specs.Steps.{Answers}
use Rattle.vod_session.specs.Requests.{IsAnswered}

-- a head that isn't refused for itself
pub accepted : (h : RequestHead) (verb : Verb) → has_body h ≡ false → verb_of h.method ≡ verb → refusal_of_verb verb ≡ None → refusal_of_head h ≡ None
accepted h verb bodiless is none =
    ap (λ (b : Bool). if b then Some refusals.BodyNotTaken else refusal_of_verb (verb_of h.method)) bodiless ∙ ap refusal_of_verb is ∙ none

module _ {C : Type 0} (answer : Answers) (rest : C → Option Rest) (h : RequestHead) (told : Option Answer) (range : Option ByteRange) (before now : ℕ)
    (is_told : told ≡ Some (answer h.target (asked_range h))) (taken : refusal_of_head h ≡ None)
  where
    answer_is : (given : Given) → turn_answer answer h given ≡ given_answer given (answer h.target (asked_range h))
    answer_is given = ap (λ (o : Option Refusal). elim o [ None ↦ given_answer given (answer h.target (asked_range h)) | Some r ↦ Err r ]) taken

    allowed : (given : Given) → MayBeGiven given (verb_of h.method) (answer h.target (asked_range h)) → IsAllowed answer (request h given)
    allowed given may = subst (λ (o : Option Refusal). MatchOption o (MayBeGiven given (verb_of h.method) (answer h.target (asked_range h))) (λ r. given ≡ due)) (sym taken) may

    due_refused : (why : Refusal) → IfSome told (λ a. a ≡ Err why) → IsAnswered answer rest h before now (reply.Refused why)
    due_refused why refused =
        let is : answer h.target (asked_range h) ≡ Err why = let P : Option Answer → Type 0 = λ o. IfSome o (λ a. a ≡ Err why) in subst P is_told refused in
        (due, allowed due tt, λ fault. absurd cc, tt, answer_is due ∙ is)

    refused_by : (why : Refusal) → IsRefused range told before now why → IsAnswered answer rest h before now (reply.Refused why)
    refused_by refusals.StoreFailed refused = (no_store, allowed no_store tt, λ fault. refused, tt, answer_is no_store)
    refused_by refusals.NoMemory refused = (no_memory, allowed no_memory tt, λ fault. absurd cc, tt, answer_is no_memory)
    refused_by why refused = due_refused why refused.1

    begun_by : (kind : Media) (length : Option ℕ) (part : Option (ℕ × ℕ × ℕ)) (cursor : C) (v : Answer) → answer h.target (asked_range h) ≡ v → IsHeadOf kind length part v →
        (verb_of h.method ≡ verbs.Get → rest cursor ≡ rest_of told) → IsAnswered answer rest h before now (reply.Body kind length part cursor)
    begun_by kind length part cursor (Err why) is head tells = absurd head
    begun_by kind length part cursor (Ok body) is head tells = (
      body,
      taken,
      answer_is due ∙ is,
      head.0,
      head.1,
      head.2,
      λ get. tells get ∙ ap rest_of is_told ∙ ap (λ (v : Answer). rest_of (Some v)) is,
    )

    pub answered_by : (result : Reply C) → IsReply range told before now result → IfBegun result (λ _ cursor. verb_of h.method ≡ verbs.Get → rest cursor ≡ rest_of told) →
        IsAnswered answer rest h before now result
    answered_by (reply.Refused why) replies tells = refused_by why replies
    answered_by (reply.Body kind length part cursor) replies tells =
        let P : Option Answer → Type 0 = λ o. IfSome o (IsHeadOf kind length part) in
        begun_by kind length part cursor (answer h.target (asked_range h)) refl (subst P is_told replies.1) tells

pub each_begun : {C : Type 0} (result : Reply C) (P Q : Option ℕ → C → Type 0) → ((length : Option ℕ) (cursor : C) → P length cursor → Q length cursor) → IfBegun result P → IfBegun result Q
each_begun (reply.Refused why) P Q weaker begun = tt
each_begun (reply.Body kind length part cursor) P Q weaker begun = weaker length cursor begun

pub any_begun : {C : Type 0} (result : Reply C) (Q : Option ℕ → C → Type 0) → ((length : Option ℕ) (cursor : C) → Q length cursor) → IfBegun result Q
any_begun (reply.Refused why) Q always = tt
any_begun (reply.Body kind length part cursor) Q always = always length cursor
