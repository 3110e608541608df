-- The answer of a request by what is found first of what it asks for, what is due of that, and how it is shown.
use Rattle.std.proofs.Common.{◌≡◌, None, Result, Ok, Err, refl, ap, ◌∙◌}
use Rattle.vod_types.specs.declared.paths.Ask.{Ask}
use Rattle.vod_types.specs.declared.refusal.Refusal.{Refusal}
use Rattle.vod_types.specs.Results.{◌>>=◌}
use Rattle.list_model.specs.Reply.{Answer}
use Rattle.origin_model.specs.Answers.{ask_answer, ranged_answer}
use Rattle.origin_model.specs.Requests.{Asking, Setup, asking_of}

module _ {D R : Type 0} (o : Setup) (ask : Ask) (found : Asking → Result D Refusal) (due : D → Result R Refusal) (shown_as : R → Answer)
    (leaf_is : (a : Asking) → ranged_answer o a None ask.leaf ≡ (found a >>= due >>= shown_as)) where
  abbrev shown : Result D Refusal → Answer
  shown r = r >>= due >>= shown_as

  answer_is : ask_answer o None ask ≡ shown (asking_of o ask >>= found)
  unfolding ask_answer
  answer_is = by_asking (asking_of o ask)
    where
      by_asking : (r : Result Asking Refusal) → (r >>= λ a. ranged_answer o a None ask.leaf) ≡ shown (r >>= found)
      by_asking (Ok a) = leaf_is a
      by_asking (Err e) = refl

  -- nothing is found
  pub answer_unfound : (e : Refusal) → (asking_of o ask >>= found) ≡ Err e → ask_answer o None ask ≡ Err e
  answer_unfound e is = answer_is ∙ ap shown is

  -- something is, and what is due of it is refused
  pub answer_undue : (s : D) (e : Refusal) → (asking_of o ask >>= found) ≡ Ok s → due s ≡ Err e → ask_answer o None ask ≡ Err e
  answer_undue s e is none = answer_is ∙ ap shown is ∙ ap (λ (r : Result R Refusal). r >>= shown_as) none

  -- it is there
  pub answer_shown : (s : D) (x : R) → (asking_of o ask >>= found) ≡ Ok s → due s ≡ Ok x → ask_answer o None ask ≡ shown_as x
  answer_shown s x is some = answer_is ∙ ap shown is ∙ ap (λ (r : Result R Refusal). r >>= shown_as) some
