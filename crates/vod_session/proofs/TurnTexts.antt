-- The texts of one turn's reply, and whether the connection ends behind it.
use Rattle.std.proofs.Common.{◌≡◌, ℕ, ◌||◌, Bool, true, false, eqb, Some, None, Ok, Err, List, [], ◌++◌, refl, sym, ap, ◌∙◌}
use Rattle.std.specs.Prelude.{if◌then◌else◌}
use Rattle.std.proofs.lemmas.List.{append-nil}
use Rattle.httparse.specs.Grammar.{RequestHead}
use Rattle.vod_types.specs.declared.refusal.Refusal.{Refusal}
use Rattle.vod_types.specs.declared.refusal.Refusal.TheVariants.{BodyNotTaken, Method}
use Rattle.list_model.specs.declared.Head.{Head}
use Rattle.list_model.specs.declared.Verb.{Verb}
use Rattle.list_model.specs.declared.Verb.TheVariants as verbs
use Rattle.list_model.specs.declared.Why.TheVariants as why
use Rattle.list_model.specs.Text.{line}
use Rattle.list_model.specs.Head.{IsHead, is_http10, verb_of, has_body}
use Rattle.list_model.specs.Reply.{Body, Answer, refusal_text, refusal_head, body_status, reply_head, answer_head, answer_rest}
use Rattle.list_model.specs.Exchange.{Given, due, no_memory, no_store, broken_after, request, refusal, is_head_verb, refusal_of_verb, refusal_of_head, closes_after, turn_answer, turn_head, turn_rest, why_after, why_after_answer}
use Rattle.vod_session.specs.Steps.{Answers}
use Rattle.vod_session.specs.Requests.{IsUnbroken}

-- ---- what isn't a head

module _ (answer : Answers) (r : Refusal) where
  pub bytes_head : (n : ℕ) → turn_head answer n (refusal r) ≡ refusal_head r false true
  bytes_head n = refl

  pub bytes_rest : turn_rest answer (refusal r) ≡ line (refusal_text r) ++ []
  bytes_rest = sym (append-nil (line (refusal_text r)))

  pub bytes_end : (n : ℕ) → why_after answer n (refusal r) ≡ Some why.Closed
  unfolding why_after
  bytes_end n = refl

-- ---- a request that is refused

module _ (answer : Answers) (h : RequestHead) where
  unbroken_rest : (given : Given) → IsUnbroken given → turn_rest answer (request h given) ≡ answer_rest (turn_answer answer h given) (is_http10 h) (is_head_verb (verb_of h.method))
  unbroken_rest due whole = refl
  unbroken_rest no_memory whole = refl
  unbroken_rest no_store whole = refl
  unbroken_rest (broken_after n) whole = absurd whole

  unbroken_end : (n : ℕ) (given : Given) → IsUnbroken given → why_after answer n (request h given) ≡ why_after_answer answer (turn_answer answer h given) (is_head_verb (verb_of h.method)) (closes_after n h)
  unfolding why_after
  unbroken_end n due whole = refl
  unbroken_end n no_memory whole = refl
  unbroken_end n no_store whole = refl
  unbroken_end n (broken_after k) whole = absurd whole

  module _ (given : Given) (whole : IsUnbroken given) (r : Refusal) (refused : turn_answer answer h given ≡ Err r) (n : ℕ) (head_only close : Bool)
      (verb : is_head_verb (verb_of h.method) ≡ head_only) (closes : closes_after n h ≡ close)
    where
      pub refused_head : (http10 : Bool) → is_http10 h ≡ http10 → turn_head answer n (request h given) ≡ refusal_head r http10 close
      refused_head http10 version =
          ap (λ (a : Answer). answer_head a (is_http10 h) (closes_after n h)) refused ∙ ap (λ (c : Bool). refusal_head r (is_http10 h) c) closes ∙ ap (λ (v : Bool). refusal_head r v close) version

      pub refused_rest : turn_rest answer (request h given) ≡ (if head_only then [] else line (refusal_text r)) ++ []
      refused_rest =
          unbroken_rest given whole
          ∙ ap (λ (a : Answer). answer_rest a (is_http10 h) (is_head_verb (verb_of h.method))) refused
          ∙ ap (λ (b : Bool). if b then [] else line (refusal_text r)) verb
          ∙ sym (append-nil (if head_only then [] else line (refusal_text r)))

      pub refused_end : why_after answer n (request h given) ≡ (if close then Some why.Closed else None)
      refused_end =
          unbroken_end n given whole
          ∙ ap (λ (a : Answer). why_after_answer answer a (is_head_verb (verb_of h.method)) (closes_after n h)) refused
          ∙ ap (λ (c : Bool). if c then Some why.Closed else None) closes

  -- ---- a request that is answered by a body

  module _ (body : Body) (answered : turn_answer answer h due ≡ Ok body) (n : ℕ) (close : Bool) (closes : closes_after n h ≡ close) where
    pub body_head : (http10 : Bool) → is_http10 h ≡ http10 → turn_head answer n (request h due) ≡ reply_head (body_status body) body.kind body.length http10 close body.part
    body_head http10 version =
        ap (λ (a : Answer). answer_head a (is_http10 h) (closes_after n h)) answered
        ∙ ap (λ (c : Bool). reply_head (body_status body) body.kind body.length (is_http10 h) c body.part) closes
        ∙ ap (λ (v : Bool). reply_head (body_status body) body.kind body.length v close body.part) version

    pub head_alone : is_head_verb (verb_of h.method) ≡ true → turn_rest answer (request h due) ≡ []
    head_alone verb = ap (λ (a : Answer). answer_rest a (is_http10 h) (is_head_verb (verb_of h.method))) answered ∙ ap (λ (b : Bool). answer_rest (Ok body) (is_http10 h) b) verb

    pub head_alone_end : is_head_verb (verb_of h.method) ≡ true → why_after answer n (request h due) ≡ (if close then Some why.Closed else None)
    head_alone_end verb =
        unbroken_end n due tt
        ∙ ap (λ (a : Answer). why_after_answer answer a (is_head_verb (verb_of h.method)) (closes_after n h)) answered
        ∙ ap (λ (b : Bool). why_after_answer answer (Ok body) b (closes_after n h)) verb
        ∙ ap (λ (c : Bool). if c then Some why.Closed else None) closes

-- ---- what a head that was read says

pub closes_is : (bytes : List ℕ) (head : Head) (h : RequestHead) (n : ℕ) → IsHead bytes head h → closes_after n h ≡ ((head.close || head.has_body) || eqb n 10000)
closes_is bytes head h n is = ap (λ (c : Bool). (c || has_body h) || eqb n 10000) (sym is.close) ∙ ap (λ (b : Bool). (head.close || b) || eqb n 10000) (sym is.body)

-- a request that is answered by a body, and isn't GET, is HEAD
pub not_get : (h : RequestHead) (verb : Verb) → verb_of h.method ≡ verb → refusal_of_head h ≡ None → (verb ≡ verbs.Get → ⊥) → is_head_verb (verb_of h.method) ≡ true
not_get h verb is taken other = go (has_body h) refl verb is other
  where
    go : (b : Bool) → has_body h ≡ b → (v : Verb) → verb_of h.method ≡ v → (v ≡ verbs.Get → ⊥) → is_head_verb (verb_of h.method) ≡ true
    go b bodied verbs.Get is other = absurd (other refl)
    go b bodied verbs.Head is other = ap is_head_verb is
    go true bodied verbs.Other is other =
        absurd (let no : Some BodyNotTaken ≡ None = sym (ap (λ (b : Bool). if b then Some BodyNotTaken else refusal_of_verb (verb_of h.method)) bodied) ∙ taken in cc)
    go false bodied verbs.Other is other =
        absurd
        (let no : Some Method ≡ None =
        sym (ap (λ (b : Bool). if b then Some BodyNotTaken else refusal_of_verb (verb_of h.method)) bodied ∙ ap refusal_of_verb is) ∙ taken in cc)
