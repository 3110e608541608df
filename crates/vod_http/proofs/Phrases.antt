-- The phrases of the statuses that are sent.
use Rattle.std.proofs.Common.{◌≡◌, ℕ, ◌≤◌, true, eqb, List, [], ◌∷◌, length, Some, refl, subst, inl, inr, lit≤, lit<}
use Rattle.std.specs.List.{list_any, AllByRecursion}
use Rattle.std.proofs.lemmas.Bool.{eqb-true, or_cases}
use Rattle.http.specs.StatusCode.{IsStatusCode, reason_phrase}
use Rattle.list_model.specs.Reply.{phrases, is_sent_status, phrase}

-- each status that is sent is a code that has that phrase, which is short
pub record IsPhrased (status : ℕ) : Type 0 where
  pub code : IsStatusCode status
  pub phrase_is : reason_phrase status ≡ Some (phrase status)
  pub short : length (phrase status) ≤ 31

by_rows : (P : ℕ → Type 0) (rows : List (ℕ × List ℕ)) → AllByRecursion (λ row. P row.0) rows → (status : ℕ) → list_any (λ row. eqb row.0 status) rows ≡ true → P status
by_rows P [] each status sent = absurd cc
by_rows P (row ∷ rows) each status sent =
    elim (or_cases (eqb row.0 status) (list_any (λ row. eqb row.0 status) rows) sent) [
      | inl here ↦ subst P (eqb-true row.0 status here) each.0
      | inr later ↦ by_rows P rows each.1 status later
    ]

p200 : IsPhrased 200
unfolding phrase
p200 = record { code = (lit≤ tt, lit< tt); phrase_is = refl; short = lit≤ tt }

p206 : IsPhrased 206
unfolding phrase
p206 = record { code = (lit≤ tt, lit< tt); phrase_is = refl; short = lit≤ tt }

p400 : IsPhrased 400
unfolding phrase
p400 = record { code = (lit≤ tt, lit< tt); phrase_is = refl; short = lit≤ tt }

p404 : IsPhrased 404
unfolding phrase
p404 = record { code = (lit≤ tt, lit< tt); phrase_is = refl; short = lit≤ tt }

p405 : IsPhrased 405
unfolding phrase
p405 = record { code = (lit≤ tt, lit< tt); phrase_is = refl; short = lit≤ tt }

p416 : IsPhrased 416
unfolding phrase
p416 = record { code = (lit≤ tt, lit< tt); phrase_is = refl; short = lit≤ tt }

p431 : IsPhrased 431
unfolding phrase
p431 = record { code = (lit≤ tt, lit< tt); phrase_is = refl; short = lit≤ tt }

p500 : IsPhrased 500
unfolding phrase
p500 = record { code = (lit≤ tt, lit< tt); phrase_is = refl; short = lit≤ tt }

p503 : IsPhrased 503
unfolding phrase
p503 = record { code = (lit≤ tt, lit< tt); phrase_is = refl; short = lit≤ tt }

each_phrased : AllByRecursion (λ row. IsPhrased row.0) phrases
each_phrased = (p200, (p206, (p400, (p404, (p405, (p416, (p431, (p500, (p503, tt)))))))))

pub sent_phrase : (status : ℕ) → is_sent_status status ≡ true → IsPhrased status
sent_phrase status sent = by_rows IsPhrased phrases each_phrased status sent
