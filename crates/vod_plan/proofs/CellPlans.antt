-- The plan of a cell over the pieces that it needs.
use Rattle.std.proofs.Common.{◌≡◌, ℕ, zero, suc, ◌+◌, ◌-◌, ◌*◌, ◌≤◌, ◌<◌, ◌||◌, Bool, true, false, List, [], ◌∷◌, ◌++◌, All, length, map, drop, take, ℤ, Some, Result, Err, refl, sym, ap, ap₂, subst, ◌∙◌, append-nil, arith}
use Rattle.std.specs.Prelude.{flat_map, nat_lt, slice_range}
use Rattle.std.specs.List.{enumerate_from}
use Rattle.std.proofs.Math.Nat.{le-mul_of_pos_right}
use Rattle.std.proofs.lemmas.Bool.{or_parts}
use Rattle.std.proofs.lemmas.Bool.Decides.{nat_tests}
use Rattle.std.proofs.lemmas.List.{drop_all, length-map, take_all}
use Rattle.std.proofs.lemmas.List.Elements.{All-head, All-tail}
use Rattle.vod_types.specs.declared.refusal.Refusal.{Refusal}
use Rattle.vod_types.specs.declared.refusal.Refusal.TheVariants.{EmptySegment}
use Rattle.vod_types.specs.declared.segments.Form.{Form}
use Rattle.vod_types.specs.declared.segments.Form.TheVariants.{Ts}
use Rattle.vod_types.specs.declared.tracks.Asked.{Asked}
use Rattle.vod_types.specs.declared.tracks.Kind.{Kind}
use Rattle.vod_types.specs.declared.tracks.Kind.TheVariants.{Video, Audio}
use Rattle.vod_types.specs.Results.{Answers}
use Rattle.vod_types.specs.Tracks.{lead_of}
use Rattle.clip_model.specs.declared.Piece.{Piece}
use Rattle.segment_model.specs.Grid.{PartGrid}
use Rattle.segment_model.specs.Lone.{first_row, lone_cell}
use Rattle.segment_model.specs.Rows.{TimedRow}
use Rattle.segment_model.specs.Timeline.{TrackRows, lead_end, timeline}
use Rattle.origin_model.specs.Loaded.{CheckedPiece}
use Rattle.origin_model.specs.Samples.{checked_rows, front_fault}
use Rattle.origin_model.specs.Sources.{source_piece}
use Rattle.origin_model.specs.Writable.{IsSoundPiece}
use Rattle.vod_plan.specs.declared.spans.PlanPiece.{PlanPiece}
use Rattle.vod_plan.specs.Looks.{samples_through, tracks_asked}
use Rattle.vod_plan.specs.Needed.{piece_rows, AreFoundOf, AreFoundPieces}
use Rattle.vod_plan.specs.Planned.{Planned, plan_view}
use Rattle.vod_plan.specs.Ranges.{PlannedPiece}
use Rattle.vod_plan.specs.RowFaults.{AreTyped}
use Rattle.vod_plan.specs.Segments.{has_rows}
use Rattle.vod_plan.specs.Selected.{rows_planned, AreSamePieces, ArePiecesOf, IsKeptIn}
use Rattle.vod_plan.specs.Spans.{piece_view, rows_in, IsPlanPiece}
use Rattle.vod_plan.proofs.FoundLemmas.{found_count, found_kept, found_rows, piece_length, same_count, same_pieces, some_asked}
use Rattle.vod_plan.specs.Wanted.{wanted_rows}
use Rattle.vod_plan.specs.declared.lone.Wanted.{Wanted}
use Rattle.vod_plan.specs.declared.lone.Wanted.TheVariants.{Iframe, Whole}
use Rattle.vod_plan.proofs.LoneIframes.{iframe_front}
use Rattle.vod_plan.proofs.PieceLemmas.{typed_of}

-- ---- a list of as many elements that was written over another

pub written_back : {X : Type 0} (len : ℕ) (new items : List X) → length new ≡ length items → len ≡ length items → take len (new ++ drop (length new) items) ≡ new
written_back {X} len new items same full =
    ap (λ (xs : List X). take len (new ++ xs)) (drop_all (length new) items (omega (arith, same))) ∙ ap (λ (xs : List X). take len xs) (append-nil new) ∙ take_all len new (omega (arith, same, full))

-- ---- no row of a kind

empty : {X : Type 0} (xs : List X) → length xs ≡ 0 → xs ≡ []
empty [] e = refl
empty (x ∷ xs) e = absurd (omega (arith, e))

not_some : (n : ℕ) → nat_lt 0 n ≡ false → n ≡ 0
not_some n e = grind (arith, nat_tests)

abbrev kind_rows : Kind → ℕ → List PlanPiece → List TimedRow
kind_rows kind file ps = flat_map (λ (e : ℕ × PlannedPiece). piece_rows kind e.0 e.1) (enumerate_from file (map piece_view ps))

no_rows : (kind : Kind) (file : ℕ) (ps : List PlanPiece) → All IsPlanPiece ps → has_rows kind ps ≡ false → kind_rows kind file ps ≡ []
no_rows kind file [] all e = refl
no_rows kind file (p ∷ ps) all e =
    let parts = or_parts (nat_lt 0 (rows_in kind (piece_view p))) (has_rows kind ps) e in
    let first : piece_rows kind file (piece_view p) ≡ [] =
    empty (piece_rows kind file (piece_view p)) (piece_length kind file p (All-head IsPlanPiece p ps all) ∙ not_some (rows_in kind (piece_view p)) parts.0) in
    ap₂ (λ (xs : List TimedRow) (ys : List TimedRow). xs ++ ys) first (no_rows kind (file + 1) ps (All-tail IsPlanPiece p ps all) parts.1)

pub lead_none : (lead : Kind) (ps : List PlanPiece) → All IsPlanPiece ps → has_rows lead ps ≡ false → (rows_planned lead (map piece_view ps)).lead ≡ []
lead_none Video ps all e = no_rows Video 0 ps all e
lead_none Audio ps all e = no_rows Audio 0 ps all e

-- ---- a row of the lead track

pub some_rows : (asked : Asked) (cs : List CheckedPiece) (ps : List PlanPiece) → All (IsSoundPiece asked) cs → AreFoundOf cs ps → has_rows (lead_of asked) ps ≡ true → (1 ≤ length ps) × (1 ≤ tracks_asked asked)
some_rows asked [] [] sound are e = absurd cc
some_rows asked [] (p ∷ ps) sound are e = absurd are
some_rows asked (c ∷ cs) [] sound are e = absurd are
some_rows asked (c ∷ cs) (p ∷ ps) sound are e =
    (omega arith, go (nat_lt 0 (rows_in (lead_of asked) (piece_view p))) refl e (λ rest. (some_rows asked cs ps (All-tail (IsSoundPiece asked) c cs sound) are.1 rest).1))
  where
    go : (b : Bool) → nat_lt 0 (rows_in (lead_of asked) (piece_view p)) ≡ b → (b || has_rows (lead_of asked) ps) ≡ true → (has_rows (lead_of asked) ps ≡ true → 1 ≤ tracks_asked asked) → 1 ≤ tracks_asked asked
    go true is e later =
        let some : 0 < rows_in (lead_of asked) (piece_view p) = grind (arith, nat_tests) in
        some_asked asked c (piece_view p) (All-head (IsSoundPiece asked) c cs sound) are.0.selected some
    go false is e later = later e

cell_bound : (s s₂ s₃ n m x y : ℕ) → 1 ≤ x → n ≤ x → m ≡ n → s₂ ≤ s + 1024 * n + 256 → s₃ ≤ s₂ + 1152 * m + 8 + 8 * y → s₃ ≤ s + 2560 * x + 8 * y
cell_bound s s₂ s₃ n m x y one less same h i = omega (arith, one, less, same, h, i)

one_of : (n x : ℕ) → 1 ≤ n → n ≤ x → 1 ≤ x
one_of n x h i = omega (arith, h, i)

most_of : (n t : ℕ) → 1 ≤ t → n ≤ n * t
most_of n t h = le-mul_of_pos_right n (omega (arith, h))

pub cell_looks : (asked : Asked) (cs : List CheckedPiece) (ps qs : List PlanPiece) (rows : TrackRows) (s s₂ s₃ : ℕ) → All (IsSoundPiece asked) cs → AreFoundOf cs ps → AreSamePieces ps qs → has_rows (lead_of asked) ps ≡ true
    → s₂ ≤ s + 1024 * length ps + 256 → s₃ ≤ s₂ + 1152 * length qs + 8 + 8 * samples_through rows → s₃ ≤ s + 2560 * (length ps * tracks_asked asked) + 8 * samples_through rows
cell_looks asked cs ps qs rows s s₂ s₃ sound are same some h i =
    let least = some_rows asked cs ps sound are some in
    let less = most_of (length ps) (tracks_asked asked) least.1 in
    cell_bound s s₂ s₃ (length ps) (length qs) (length ps * tracks_asked asked) (samples_through rows) (one_of (length ps) (length ps * tracks_asked asked) least.0 less) less (same_count ps qs same) h i

-- one end alone
pub end_looks : (asked : Asked) (cs : List CheckedPiece) (ps : List PlanPiece) (s s₁ : ℕ) → All (IsSoundPiece asked) cs → AreFoundOf cs ps → s₁ ≤ s + 256 → (has_rows (lead_of asked) ps ≡ false → s₁ ≤ s)
    → s₁ ≤ s + 256 * (length ps * tracks_asked asked)
end_looks asked cs ps s s₁ sound are most none = go (has_rows (lead_of asked) ps) refl none
  where
    some : (x : ℕ) → 1 ≤ x → s₁ ≤ s + 256 * x
    some x one = omega (arith, one, most)

    least_most : (x : ℕ) → s₁ ≤ s → s₁ ≤ s + 256 * x
    least_most x h = omega (arith, h)

    go : (b : Bool) → has_rows (lead_of asked) ps ≡ b → (b ≡ false → s₁ ≤ s) → s₁ ≤ s + 256 * (length ps * tracks_asked asked)
    go false is none = least_most (length ps * tracks_asked asked) (none refl)
    go true is none =
        let least = some_rows asked cs ps sound are is in
        some (length ps * tracks_asked asked) (one_of (length ps) (length ps * tracks_asked asked) least.0 (most_of (length ps) (tracks_asked asked) least.1))

-- ---- what is refused

abbrev nothing : List TimedRow
nothing = []

drop_nothing : (n : ℕ) → drop n nothing ≡ nothing
drop_nothing zero = refl
drop_nothing (suc n) = refl

take_nothing : (n : ℕ) → take n nothing ≡ nothing
take_nothing zero = refl
take_nothing (suc n) = refl

nil_range : (a b : ℕ) → slice_range nothing a b ≡ nothing
nil_range a b = ap (λ (xs : List TimedRow). take (b - a) xs) (drop_nothing a) ∙ take_nothing (b - a)

front_empty : (number : ℕ) (form : Form) (cs : List CheckedPiece) (rows : TrackRows) → rows.lead ≡ [] → front_fault number form cs rows ≡ Some (EmptySegment number)
unfolding front_fault
front_empty number form cs rows e = rw e refl

whole_empty : (number : ℕ) (form : Form) (asked : Asked) (cs : List CheckedPiece) (rows : TrackRows) → rows.lead ≡ [] → checked_rows number form asked cs rows ≡ Err (EmptySegment number)
unfolding checked_rows
whole_empty number form asked cs rows e = rw (front_empty number form cs rows e) refl

module _ (number : ℕ) (wanted : Wanted) (asked : Asked) (cs : List CheckedPiece) where
  rows_empty : (rows : TrackRows) → rows.lead ≡ [] → wanted_rows number wanted asked cs rows ≡ Err (EmptySegment number)
  rows_empty rows e = by wanted
    where
      by : (wanted : Wanted) → wanted_rows number wanted asked cs rows ≡ Err (EmptySegment number)
      by (Whole form) = whole_empty number form asked cs rows e
      by (Iframe index) = iframe_front asked cs number index rows (EmptySegment number) (front_empty number Ts cs rows e)

  cell_empty : (g : PartGrid) (rows : TrackRows) (k : ℕ) → rows.lead ≡ [] → (lone_cell g rows k).lead ≡ []
  unfolding lone_cell
  cell_empty g rows k e = ap (λ (lead : List TimedRow). slice_range lead (first_row g lead k) (first_row g lead (suc k))) e ∙ nil_range (first_row g nothing k) (first_row g nothing (suc k))

  pub empty_cell : (g : PartGrid) (k : ℕ) (kind : Kind) (ps : List PlanPiece) → kind ≡ lead_of asked → All IsPlanPiece ps → has_rows kind ps ≡ false → All (IsSoundPiece asked) cs → AreFoundOf cs ps
      → wanted_rows number wanted asked cs (lone_cell g (timeline (map source_piece cs)) k) ≡ Err (EmptySegment number)
  empty_cell g k kind ps leads all none sound are =
      rows_empty (lone_cell g (timeline (map source_piece cs)) k)
      (cell_empty g (timeline (map source_piece cs)) k
      (ap (λ (rows : TrackRows). rows.lead) (sym (found_rows asked cs ps sound are)) ∙ ap (λ (kind : Kind). (rows_planned kind (map piece_view ps)).lead) (sym leads) ∙ lead_none kind ps all none))

  -- the rows of the cell that were checked
  pub cell_is : (g : PartGrid) (k : ℕ) (kind : Kind) (ps qs : List PlanPiece) → kind ≡ lead_of asked → rows_planned kind (map piece_view qs) ≡ lone_cell g (rows_planned kind (map piece_view ps)) k
      → All (IsSoundPiece asked) cs → AreFoundOf cs ps → rows_planned (lead_of asked) (map piece_view qs) ≡ lone_cell g (timeline (map source_piece cs)) k
  cell_is g k kind ps qs leads cut sound are =
      ap (λ (kind : Kind). rows_planned kind (map piece_view qs)) (sym leads) ∙ cut
      ∙ ap (λ (kind : Kind). lone_cell g (rows_planned kind (map piece_view ps)) k) leads
      ∙ ap (λ (rows : TrackRows). lone_cell g rows k) (found_rows asked cs ps sound are)

  pub full_cell : (g : PartGrid) (k : ℕ) (kind : Kind) (ps qs : List PlanPiece) (r : Result Planned Refusal) → kind ≡ lead_of asked → rows_planned kind (map piece_view qs) ≡ lone_cell g (rows_planned kind (map piece_view ps)) k
      → AreSamePieces ps qs → All (IsSoundPiece asked) cs → AreFoundOf cs ps
      → (ArePiecesOf cs qs → Answers plan_view r (wanted_rows number wanted asked cs (rows_planned (lead_of asked) (map piece_view qs))))
      → Answers plan_view r (wanted_rows number wanted asked cs (lone_cell g (timeline (map source_piece cs)) k))
  full_cell g k kind ps qs r leads cut same sound are answers =
      subst (λ (rows : TrackRows). Answers plan_view r (wanted_rows number wanted asked cs rows)) (cell_is g k kind ps qs leads cut sound are) (answers (same_pieces cs ps qs are same))

  pub full_looks : (g : PartGrid) (k : ℕ) (kind : Kind) (ps qs : List PlanPiece) (x y z : ℕ) → kind ≡ lead_of asked → rows_planned kind (map piece_view qs) ≡ lone_cell g (rows_planned kind (map piece_view ps)) k
      → AreSamePieces ps qs → has_rows kind ps ≡ true → All (IsSoundPiece asked) cs → AreFoundOf cs ps → y ≤ x + 1024 * length ps + 256
      → z ≤ y + 1152 * length qs + 8 + 8 * samples_through (rows_planned (lead_of asked) (map piece_view qs))
      → z ≤ x + 2560 * (length ps * tracks_asked asked) + 8 * samples_through (lone_cell g (timeline (map source_piece cs)) k)
  full_looks g k kind ps qs x y z leads cut same some sound are h i =
      subst (λ (rows : TrackRows). z ≤ x + 2560 * (length ps * tracks_asked asked) + 8 * samples_through rows) (cell_is g k kind ps qs leads cut sound are)
      (cell_looks asked cs ps qs (rows_planned (lead_of asked) (map piece_view qs)) x y z sound are same (ap (λ (kind : Kind). has_rows kind ps) (sym leads) ∙ some) h i)

-- ---- whatever the store tells

length-take_le : (n : ℕ) (ps : List Piece) → length (take n ps) ≤ length ps
length-take_le zero ps = omega arith
length-take_le (suc n) [] = omega arith
length-take_le (suc n) (p ∷ ps) = let later = length-take_le n ps in omega (arith, later)

pub found_few : (asked : Asked) (pieces : List Piece) (found : List PlanPiece) → AreFoundPieces asked pieces found → length pieces ≤ 1024 → length found ≤ 1024
found_few asked pieces found h few =
    let count = found_count h.checked found h.are in
    let named = ap (λ (ps : List Piece). length ps) h.of in
    few_of (length found) pieces (sym count ∙ sym (length-map h.checked (λ c. c.piece)) ∙ named) few
  where
    few_of : (n : ℕ) (ps : List Piece) → n ≡ length (take n ps) → length ps ≤ 1024 → n ≤ 1024
    few_of n ps e few = let all = length-take_le n ps in omega (arith, e, all, few)

pub kept_rows : (kind : Kind) (asked : Asked) (pieces : List Piece) (found : List PlanPiece) → AreFoundPieces asked pieces found → All (λ p. IsKeptIn kind (piece_view p)) found
kept_rows kind asked pieces found h = found_kept kind h.checked found h.are

pieces_of : (cs : List CheckedPiece) (ps : List PlanPiece) → AreFoundOf cs ps → ArePiecesOf cs ps
pieces_of [] [] are = tt
pieces_of [] (p ∷ ps) are = absurd are
pieces_of (c ∷ cs) [] are = absurd are
pieces_of (c ∷ cs) (p ∷ ps) are = (are.0.of, pieces_of cs ps are.1)

pub typed_found : (asked : Asked) (pieces : List Piece) (found : List PlanPiece) → AreFoundPieces asked pieces found → All IsPlanPiece found → AreTyped asked found
typed_found asked pieces found h good = typed_of asked h.checked found (pieces_of h.checked found h.are) h.sound good

-- ---- the end of the lead rows

-- that of the rows of the same pieces
pub open_end : (asked : Asked) (start end : ℤ) (kind : Kind) (shown ps : List PlanPiece) → kind ≡ lead_of asked → shown ≡ ps → end ≡ lead_end start (rows_planned kind (map piece_view shown)).lead
    → end ≡ lead_end start (rows_planned (lead_of asked) (map piece_view ps)).lead
open_end asked start end kind shown ps leads same e = e ∙ ap₂ (λ (kind : Kind) (qs : List PlanPiece). lead_end start (rows_planned kind (map piece_view qs)).lead) leads same

pub end_steps : (asked : Asked) (cs : List CheckedPiece) (ps shown : List PlanPiece) (kind : Kind) (s s₁ : ℕ) → All (IsSoundPiece asked) cs → AreFoundOf cs ps → kind ≡ lead_of asked → shown ≡ ps → s₁ ≤ s + 256
    → (has_rows kind shown ≡ false → s₁ ≤ s) → s₁ ≤ s + 256 * (length ps * tracks_asked asked)
end_steps asked cs ps shown kind s s₁ sound are leads same most none =
    end_looks asked cs ps s s₁ sound are most (λ e. none (ap₂ (λ (kind : Kind) (qs : List PlanPiece). has_rows kind qs) leads same ∙ e))
