-- A refusal that is due is one of a path, unless memory ran out.
use Rattle.std.proofs.Common.{◌≡◌, ◌≢◌, Result, Ok, Err, subst}
use Rattle.std.specs.Prelude.{IfErr}
use Rattle.vod_types.specs.declared.refusal.Refusal.{Refusal}
use Rattle.vod_types.specs.declared.refusal.Refusal.TheVariants as refusals
use Rattle.vod_types.specs.declared.refusal.Refusal.TheVariants.{NoMemory}
use Rattle.vod_types.specs.Results.{Answers}
use Rattle.answer_laws.specs.Refusals.{IsPathRefusal}
use Rattle.answer_laws.proofs.Steps.{May}

module _ {Y : Type 0} (due : Result Y Refusal) (may : May due) where
  of_due : (e : Refusal) → due ≡ Err e → IsPathRefusal e
  of_due e is = subst May is may

  pub due_may : (e : Refusal) → (e ≢ NoMemory → due ≡ Err e) → IsPathRefusal e
  due_may refusals.BadHead is = of_due _ (is (λ same. absurd cc))
  due_may refusals.Method is = of_due _ (is (λ same. absurd cc))
  due_may refusals.HeadTooLong is = of_due _ (is (λ same. absurd cc))
  due_may refusals.BodyNotTaken is = of_due _ (is (λ same. absurd cc))
  due_may (refusals.BadSettings rule) is = of_due _ (is (λ same. absurd cc))
  due_may (refusals.BadNal file sample) is = of_due _ (is (λ same. absurd cc))
  due_may (refusals.BadRange length) is = of_due _ (is (λ same. absurd cc))
  due_may why is = tt

-- ---- what a call answers

pub answers_may : {X Y : Type 0} (view : X → Y) (due : Result Y Refusal) → May due → (result : Result X Refusal) → Answers view result due → IfErr result IsPathRefusal
answers_may view due may (Ok x) answered = tt
answers_may view due may (Err e) answered = due_may due may e answered

pub memory_may : (e : Refusal) → e ≡ NoMemory → IsPathRefusal e
memory_may e is = rw is tt

pub only_may : {X : Type 0} (result : Result X Refusal) → IfErr result (λ e. e ≡ NoMemory) → IfErr result IsPathRefusal
only_may (Ok x) only = tt
only_may (Err e) only = memory_may e only
