-- The periods over sequences that were looked at.
use Rattle.std.proofs.Common.{◌≡◌, Bool, ℕ, zero, suc, ◌+◌, ◌≤◌, List, [], ◌∷◌, map, take, Option, Some, None, All, refl, sym, ap, ◌∙◌, arith}
use Rattle.std.specs.Prelude.{option_map, slice_get, sum_by}
use Rattle.std.specs.Option.{option_map_or}
use Rattle.std.proofs.lemmas.List.Elements.{All-head, All-tail, All-nil, All-cons}
use Rattle.std.proofs.lemmas.Option.{slice_get-map}
use Rattle.std.proofs.lemmas.List.Sums.{sum_by-cons, sum_by-take-le, sum_by-le-sum_by}
use Rattle.clip_model.specs.declared.Part.{Part}
use Rattle.clip_model.specs.Mapping.{Mapping}
use Rattle.segment_model.specs.Grid.{SegmentGrid}
use Rattle.flat_lists.specs.CountedCells.{part_cells}
use Rattle.seek_lists.specs.Looked.{IsLookedSequence, looked_seen, sequence_seen, IsOfMapping}
use Rattle.flat_lists.specs.PartTracks.{PartSeen}
use Rattle.flat_lists.specs.Written.{declared_cells, first_cell, first_seen, parts_seen, reps_seen, sequence_reps}
use Rattle.seek_lists.specs.declared.looked_sequences.LookedPart.{LookedPart}
use Rattle.seek_lists.specs.declared.looked_sequences.LookedSequence.{LookedSequence}
use Rattle.flat_lists.proofs.PeriodLemmas.{declared_few}

pub all_looked : (m : Mapping) (ss : List LookedSequence) → All (IsOfMapping m) ss → All IsLookedSequence ss
all_looked m [] h = All-nil IsLookedSequence
all_looked m (s ∷ ss) h = let own = All-head (IsOfMapping m) s ss h in All-cons IsLookedSequence s ss own.looked (all_looked m ss (All-tail (IsOfMapping m) s ss h))

-- the declared cells of the parts before one are few
pub before_few : (g : SegmentGrid) (ps : List LookedPart) (k : ℕ) → sum_by (λ p. part_cells g (looked_seen p)) ps ≤ 100000 → 1 + sum_by (λ p. declared_cells g p.part) (take k ps) ≤ 100001
before_few g ps k h =
    let front = sum_by-take-le (λ (p : LookedPart). declared_cells g p.part) ps k in
    let low = sum_by-le-sum_by (λ (p : LookedPart). declared_cells g p.part) (λ (p : LookedPart). part_cells g (looked_seen p)) ps (λ p. declared_few g (looked_seen p)) in
    omega (arith, front, low, h)

taken_sum : (g : SegmentGrid) (ps : List LookedPart) (k : ℕ) → sum_by (declared_cells g) (take k (map (λ (p : Part × PartSeen). p.0) (map looked_seen ps))) ≡ sum_by (λ p. declared_cells g p.part) (take k ps)
taken_sum g [] zero = refl
taken_sum g [] (suc k) = refl
taken_sum g (p ∷ ps) zero = refl
taken_sum g (p ∷ ps) (suc k) =
    let ih = taken_sum g ps k in
    omega (arith, sum_by-cons (declared_cells g) p.part (take k (map (λ (p : Part × PartSeen). p.0) (map looked_seen ps))), sum_by-cons (λ (p : LookedPart). declared_cells g p.part) p (take k ps), ih)

pub first_is : (g : SegmentGrid) (ps : List LookedPart) (k : ℕ) → 1 + sum_by (λ p. declared_cells g p.part) (take k ps) ≡ first_cell g (map (λ (p : Part × PartSeen). p.0) (map looked_seen ps)) k
first_is g ps k = ap (λ (n : ℕ). 1 + n) (sym (taken_sum g ps k))

-- ---- the part at a place

module _ (m : Mapping) (g : SegmentGrid) (align : Bool) (place : ℕ) (s : LookedSequence) where
  pub reps_there : (p : LookedPart) (first : ℕ) → slice_get s.parts.items place ≡ Some p → first ≡ 1 + sum_by (λ p. declared_cells g p.part) (take place s.parts.items)
      → reps_seen m g align s.number (place + 1) first (looked_seen p) ≡ sequence_reps m g align place (sequence_seen s)
  reps_there p first at is =
      ap (λ (n : ℕ). reps_seen m g align s.number (place + 1) n (looked_seen p)) (is ∙ first_is g s.parts.items place)
      ∙ sym (ap (λ (o : Option (Part × PartSeen)). option_map_or (reps_seen m g align s.number (place + 1) (first_cell g (parts_seen (sequence_seen s)) place)) o [])
      (slice_get-map looked_seen s.parts.items place ∙ ap (option_map looked_seen) at))

  pub reps_nowhere : slice_get s.parts.items place ≡ None → sequence_reps m g align place (sequence_seen s) ≡ []
  reps_nowhere none =
      ap (λ (o : Option (Part × PartSeen)). option_map_or (reps_seen m g align s.number (place + 1) (first_cell g (parts_seen (sequence_seen s)) place)) o [])
      (slice_get-map looked_seen s.parts.items place ∙ ap (option_map looked_seen) none)

-- ---- the parts of the first sequence

parts_looked : (ps : List LookedPart) → map (λ (p : LookedPart). p.part) ps ≡ map (λ (p : Part × PartSeen). p.0) (map looked_seen ps)
parts_looked [] = refl
parts_looked (p ∷ ps) = ap (λ (parts : List Part). p.part ∷ parts) (parts_looked ps)

pub first_are : (ss : List LookedSequence) (s : LookedSequence) (rest : List LookedSequence) (ps : List LookedPart) → ss ≡ s ∷ rest → ps ≡ s.parts.items → map (λ (p : LookedPart). p.part) ps ≡ first_seen (map sequence_seen ss)
first_are ss s rest ps begins are = ap (map (λ (p : LookedPart). p.part)) are ∙ parts_looked s.parts.items ∙ sym (ap (λ (ss : List LookedSequence). first_seen (map sequence_seen ss)) begins)
