-- What is refused before the samples of a segment are gone through.
use Rattle.std.proofs.Common.{◌≡◌, ℕ, ◌<◌, ◌≤◌, List, Option, Some, None, Result, Ok, Err, refl, ◌∙◌}
use Rattle.std.specs.Option.{option_or}
use Rattle.std.proofs.lemmas.Bool.{lt-ltb, le-ltb, ne_eqb}
use Rattle.vod_types.specs.declared.refusal.Refusal.{Refusal}
use Rattle.vod_types.specs.declared.refusal.Refusal.TheVariants.{EmptySegment, TooManySamples}
use Rattle.vod_types.specs.declared.segments.Form.{Form}
use Rattle.vod_types.specs.Results.{unless}
use Rattle.vod_plan.specs.RowFaults.{FileFacts, front_in, many_fault, mixed_in}

module _ (number : ℕ) (form : Form) (facts : List FileFacts) (lead other : ℕ) where
  abbrev due : Result (Unit {0}) Refusal
  due = unless (front_in number form facts lead other)

  pub front-empty : lead ≡ 0 → due ≡ Err (EmptySegment number)
  unfolding front_in
  front-empty none = rw none refl

  module _ (some : lead ≡ 0 → ⊥) where
    after_empty : due ≡ unless (option_or (mixed_in form facts) (many_fault lead other))
    unfolding front_in
    after_empty = rw (ne_eqb lead 0 some) refl

    pub front-mixed : (e : Refusal) → unless (mixed_in form facts) ≡ Err e → due ≡ Err e
    front-mixed e found = after_empty ∙ by (mixed_in form facts) found
      where
        by : (mixed : Option Refusal) → unless mixed ≡ Err e → unless (option_or mixed (many_fault lead other)) ≡ Err e
        by None found = absurd cc
        by (Some d) found = found

    module _ (x : Unit {0}) (one : unless (mixed_in form facts) ≡ Ok x) where
      none_mixed : mixed_in form facts ≡ None
      none_mixed = by (mixed_in form facts) one
        where
          by : (mixed : Option Refusal) → unless mixed ≡ Ok x → mixed ≡ None
          by None e = refl
          by (Some d) e = absurd cc

      after_mixed : due ≡ unless (many_fault lead other)
      after_mixed = after_empty ∙ rw none_mixed refl

      pub front-lead : 200000 < lead → due ≡ Err (TooManySamples lead)
      front-lead many = after_mixed ∙ rw (lt-ltb 200000 lead many) refl

      module _ (few : lead ≤ 200000) where
        pub front-other : 200000 < other → due ≡ Err (TooManySamples other)
        front-other many = after_mixed ∙ rw (le-ltb 200000 lead few, lt-ltb 200000 other many) refl

        pub front-none : other ≤ 200000 → due ≡ Ok tt
        front-none few_other = after_mixed ∙ rw (le-ltb 200000 lead few, le-ltb 200000 other few_other) refl
