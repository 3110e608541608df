-- A timeline of two parts of declared lengths, none of whose pieces has a fault, has rows.
use Rattle.std.proofs.Common.{◌≡◌, ℕ, zero, suc, ◌≤◌, true, List, [], ◌∷◌, inl, inr, Some, Result, Ok, refl, ap, ◌∙◌, arith}
use Rattle.std.specs.Prelude.{sum}
use Rattle.std.specs.List.{AllByRecursion}
use Rattle.std.proofs.lemmas.Bool.{cases_lt, le-ltb}
use Rattle.vod_types.specs.declared.settings.Policy.TheVariants.{LastShort}
use Rattle.vod_types.specs.declared.tracks.Asked.{Asked}
use Rattle.vod_types.specs.Results.{◌>>◌, each_in_turn}
use Rattle.vod_types.specs.Tracks.{lead_of}
use Rattle.clip_model.specs.declared.Part.{Part}
use Rattle.clip_model.specs.declared.Piece.{Piece}
use Rattle.clip_model.specs.Timeline.{Timeline}
use Rattle.segment_model.specs.Cut.{listed}
use Rattle.segment_model.specs.Grid.{SegmentGrid, cells, first_covering, length_of}
use Rattle.segment_model.specs.Listing.{ListedSegment}
use Rattle.segment_model.proofs.Numbers.{first_covering_is}
use Rattle.origin_model.specs.Loaded.{CheckedPiece, checked}
use Rattle.origin_model.specs.Plans.{Cutting, all_pieces, all_pieces_by, counts, few_cells, planned_rows}
use Rattle.origin_model.specs.Sources.{is_declared, source_part, source_parts}

-- cells of two seconds
abbrev pub two_seconds : SegmentGrid
two_seconds = record { bootstrap = []; step = 2000; policy = LastShort }

few_covering : (l : ℕ) → l ≤ 200000 → first_covering two_seconds l ≤ 100
few_covering l h =
    let is = first_covering_is two_seconds (tt, omega arith) l in
    elim (cases_lt 100 (first_covering two_seconds l)) [ inl above ↦ (let low = is.below 100 above in absurd (omega (arith, low))) | inr within ↦ within ]

few_in_part : (l : ℕ) → l ≤ 200000 → cells two_seconds l ≤ 100
unfolding cells
few_in_part zero h = omega arith
few_in_part (suc l) h = few_covering (suc l) h

few_both : (m n : ℕ) → m ≤ 100 → n ≤ 100 → few_cells (sum (m ∷ n ∷ [])) ≡ Ok tt
unfolding few_cells
few_both m n hm hn = let both : sum (m ∷ n ∷ []) ≤ 100000 = omega (arith, hm, hn) in rw (le-ltb _ _ both) refl

abbrev Passes : {A B E : Type 0} → (A → Result B E) → A → Type 0
Passes {A} {B} {E} f x = (y : B) × (f x ≡ Ok y)

all_pass : {A B E : Type 0} (f : A → Result B E) (xs : List A) → AllByRecursion (Passes f) xs → (ys : List B) × (each_in_turn f xs ≡ Ok ys)
all_pass f [] h = ([], refl)
all_pass f (x ∷ xs) h = let rest = all_pass f xs h.1 in (h.0.0 ∷ rest.0, rw (h.0.1, rest.1) refl)

module _ (c : Cutting) (grid : c.grid ≡ two_seconds) (asked : Asked) (pieces : List Piece) (p q : Part) (l m : ℕ) (first : p.length_ms ≡ Some l) (second : q.length_ms ≡ Some m) where
  abbrev timeline : Timeline
  timeline = record { pieces = pieces; parts = p ∷ q ∷ [] }

  counted : counts c asked timeline ≡ cells two_seconds l ∷ cells two_seconds m ∷ []
  unfolding length_of source_part
  counted = rw (first, second, grid) refl

  few : l ≤ 200000 → m ≤ 200000 → few_cells (sum (counts c asked timeline)) ≡ Ok tt
  few short-l short-m = ap (λ ns. few_cells (sum ns)) counted ∙ few_both (cells two_seconds l) (cells two_seconds m) (few_in_part l short-l) (few_in_part m short-m)

  needed : few_cells (sum (counts c asked timeline)) ≡ Ok tt → all_pieces c asked timeline ≡ Ok pieces
  unfolding all_pieces
  needed e =
      let declared : is_declared timeline ≡ true = rw (first, second) refl in
      ap (λ declared. all_pieces_by c declared asked timeline) declared ∙ ap (λ r. r >> Ok pieces) e

  planned : (cs : List CheckedPiece) → few_cells (sum (counts c asked timeline)) ≡ Ok tt → each_in_turn (checked c.files c.edits asked) pieces ≡ Ok cs →
      planned_rows c asked timeline ≡ Ok (listed (lead_of asked) c.grid c.align (source_parts c.files c.edits asked timeline))
  unfolding planned_rows
  planned cs e taken = rw (needed e, taken, e) refl

  pub rows_planned : l ≤ 200000 → m ≤ 200000 → AllByRecursion (λ piece. (k : CheckedPiece) × (checked c.files c.edits asked piece ≡ Ok k)) pieces → (rows : List ListedSegment) × (planned_rows c asked timeline ≡ Ok rows)
  rows_planned short-l short-m pass =
      let taken = all_pass (checked c.files c.edits asked) pieces pass in
      (listed (lead_of asked) c.grid c.align (source_parts c.files c.edits asked timeline), planned taken.0 (few short-l short-m) taken.1)
