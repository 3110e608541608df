-- The answer of a master playlist or a media presentation description, by its text.
use Rattle.std.proofs.Common.{◌≡◌, ℕ, List, None, Result, Ok, Err, refl, ap, ◌∙◌}
use Rattle.vod_types.specs.declared.paths.Ask.{Ask}
use Rattle.vod_types.specs.declared.paths.Leaf.TheVariants as leaves
use Rattle.vod_types.specs.declared.refusal.Refusal.{Refusal}
use Rattle.vod_types.specs.Results.{◌>>=◌}
use Rattle.list_model.specs.Manifest.{manifest}
use Rattle.list_model.specs.Reply.{Answer, leaf_body, whole}
use Rattle.origin_model.specs.Answers.{ask_answer, leaf_answer, ranged_answer}
use Rattle.origin_model.specs.Lists.{master_text, periods, shown_sequences}
use Rattle.origin_model.specs.Requests.{Asking, Setup, asking_of, grid_in_use}
use Rattle.vod_origin.specs.declared.presentations.Presentation.{Presentation}
use Rattle.vod_origin.specs.declared.presentations.Presentation.TheVariants.{Master, Description}
use Rattle.vod_origin.specs.Presentations.{asking_in, leaf_presented, text_due}
use Rattle.vod_origin.proofs.FoundAnswers.{answer_shown, answer_undue, answer_unfound}

-- what a request is about is found first
pub asking_due : (r : Result Asking Refusal) → (r >>= asking_in) ≡ r
asking_due (Ok a) = refl
asking_due (Err e) = refl

-- a text is made of what was found
text_shown : {X : Type 0} (text : X → List ℕ) (shown_as : List ℕ → Answer) (r : Result X Refusal) → (r >>= λ found. shown_as (text found)) ≡ (r >>= (λ found. Ok (text found)) >>= shown_as)
text_shown text shown_as (Ok found) = refl
text_shown text shown_as (Err e) = refl

module _ (o : Setup) (ask : Ask) (p : Presentation) (leaf_is : ask.leaf ≡ leaf_presented p) where
  abbrev shown_as : List ℕ → Answer
  shown_as bytes = Ok (leaf_body (leaf_presented p) bytes whole)

  by_leaf : (p : Presentation) (a : Asking) → ranged_answer o a None (leaf_presented p) ≡ (text_due p o a >>= λ bytes. Ok (leaf_body (leaf_presented p) bytes whole))
  unfolding leaf_answer
  by_leaf Master a = text_shown (master_text o a) (λ bytes. Ok (leaf_body leaves.Master bytes whole)) (shown_sequences o a)
  by_leaf Description a = text_shown (manifest (grid_in_use o a).step) (λ bytes. Ok (leaf_body leaves.Mpd bytes whole)) (periods o a)

  of_ask : (a : Asking) → ranged_answer o a None ask.leaf ≡ (asking_in a >>= text_due p o >>= shown_as)
  of_ask a = ap (ranged_answer o a None) leaf_is ∙ by_leaf p a

  -- nothing is asked for
  pub presentation_unasked : (e : Refusal) → asking_of o ask ≡ Err e → ask_answer o None ask ≡ Err e
  presentation_unasked e is = answer_unfound o ask asking_in (text_due p o) shown_as of_ask e (asking_due (asking_of o ask) ∙ is)

  -- there is no text of it
  pub presentation_undue : (a : Asking) (e : Refusal) → asking_of o ask ≡ Ok a → text_due p o a ≡ Err e → ask_answer o None ask ≡ Err e
  presentation_undue a e is = answer_undue o ask asking_in (text_due p o) shown_as of_ask a e (asking_due (asking_of o ask) ∙ is)

  -- there is one
  pub presentation_with : (a : Asking) (bytes : List ℕ) → asking_of o ask ≡ Ok a → text_due p o a ≡ Ok bytes → ask_answer o None ask ≡ Ok (leaf_body ask.leaf bytes whole)
  presentation_with a bytes is due = answer_shown o ask asking_in (text_due p o) shown_as of_ask a bytes (asking_due (asking_of o ask) ∙ is) due ∙ rw leaf_is refl
