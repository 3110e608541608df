-- What is refused before the samples of a segment are gone through.
use Rattle.std.proofs.Common.{◌≡◌, ℕ, ◌<◌, ◌≤◌, true, false, List, [], ◌∷◌, length, Option, Some, None, Result, Ok, Err, refl, ap₂, ◌∙◌}
use Rattle.std.specs.Prelude.{find, nat_lt, option_map, ◌==◌}
use Rattle.std.specs.Bool.{then_some}
use Rattle.std.specs.Option.{option_or}
use Rattle.std.proofs.lemmas.Bool.{lt-ltb, le-ltb}
use Rattle.std.proofs.lemmas.List.{length-map}
use Rattle.vod_types.specs.declared.refusal.Refusal.{Refusal}
use Rattle.vod_types.specs.declared.refusal.Refusal.TheVariants.{EmptySegment, TooManySamples}
use Rattle.vod_types.specs.declared.segments.Form.{Form}
use Rattle.vod_types.specs.Results.{unless}
use Rattle.flat_samples.specs.declared.selection.PartRows.{PartRows}
use Rattle.flat_samples.specs.Rows.{timed_view, part_rows}
use Rattle.flat_segments.specs.RowFaults.{front_in, mixed_in}
use Rattle.flat_segments.specs.Segments.{FileFacts}

-- by the numbers of rows
abbrev by_counts : ℕ → Option Refusal → ℕ → ℕ → Option Refusal
by_counts number mixed lead other =
    option_or (then_some (lead == 0) (EmptySegment number)) (option_or mixed (option_map (λ count. TooManySamples count) (find (nat_lt 200000) (lead ∷ other ∷ []))))

module _ (number : ℕ) (form : Form) (facts : List FileFacts) (rows : PartRows) where
  abbrev due : Result (Unit {0}) Refusal
  due = unless (front_in number form facts (part_rows rows))

  due-is : due ≡ unless (by_counts number (mixed_in form facts) (length rows.lead.items) (length rows.other.items))
  unfolding front_in
  due-is = ap₂ (λ (n m : ℕ). unless (by_counts number (mixed_in form facts) n m)) (length-map rows.lead.items timed_view) (length-map rows.other.items timed_view)

  pub front-empty : true ≡ (length rows.lead.items == 0) → due ≡ Err (EmptySegment number)
  front-empty none = due-is ∙ rw (← none) refl

  module _ (some : false ≡ (length rows.lead.items == 0)) where
    after_empty : due ≡ unless (option_or (mixed_in form facts) (option_map (λ count. TooManySamples count) (find (nat_lt 200000) (length rows.lead.items ∷ length rows.other.items ∷ []))))
    after_empty = due-is ∙ rw (← some) refl

    pub front-mixed : (e : Refusal) → unless (mixed_in form facts) ≡ Err e → due ≡ Err e
    front-mixed e found = after_empty ∙ by (mixed_in form facts) found
      where
        by : (mixed : Option Refusal) → unless mixed ≡ Err e → unless (option_or mixed (option_map (λ count. TooManySamples count) (find (nat_lt 200000) (length rows.lead.items ∷ length rows.other.items ∷ [])))) ≡ Err e
        by None found = absurd cc
        by (Some d) found = found

    module _ (x : Unit {0}) (one : unless (mixed_in form facts) ≡ Ok x) where
      none_mixed : mixed_in form facts ≡ None
      none_mixed = by (mixed_in form facts) one
        where
          by : (mixed : Option Refusal) → unless mixed ≡ Ok x → mixed ≡ None
          by None e = refl
          by (Some d) e = absurd cc

      after_mixed : due ≡ unless (option_map (λ count. TooManySamples count) (find (nat_lt 200000) (length rows.lead.items ∷ length rows.other.items ∷ [])))
      after_mixed = after_empty ∙ rw none_mixed refl

      pub front-lead : 200000 < length rows.lead.items → due ≡ Err (TooManySamples (length rows.lead.items))
      front-lead many = after_mixed ∙ rw (lt-ltb 200000 (length rows.lead.items) many) refl

      module _ (few : length rows.lead.items ≤ 200000) where
        pub front-other : 200000 < length rows.other.items → due ≡ Err (TooManySamples (length rows.other.items))
        front-other many = after_mixed ∙ rw (le-ltb 200000 (length rows.lead.items) few, lt-ltb 200000 (length rows.other.items) many) refl

        pub front-none : length rows.other.items ≤ 200000 → due ≡ Ok tt
        front-none few_other = after_mixed ∙ rw (le-ltb 200000 (length rows.lead.items) few, le-ltb 200000 (length rows.other.items) few_other) refl
