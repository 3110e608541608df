-- The listed segments of a sequence, from part to part.
use Rattle.std.proofs.Common.{◌≡◌, ℕ, zero, suc, ◌+◌, ◌-◌, ◌*◌, ◌<◌, ◌≤◌, Bool, true, false, List, [], ◌∷◌, ◌++◌, length, map, take, drop, get_or, ℤ, pos, None, slice_range, All, refl, sym, ap, ap₂, ◌∙◌, subst, arith, append-nil, append_assoc, drop-cons}
use Rattle.std.specs.Prelude.{sum}
use Rattle.std.proofs.Math.Nat.{mul-le-mul_right, suc-mul, le-mul_of_pos_right}
use Rattle.std.proofs.lemmas.List.{drop-map, take-map, drop_all}
use Rattle.std.proofs.lemmas.List.Elements.{All-drop, All-take}
use Rattle.std.proofs.lemmas.List.Sums.{sum_by-cons}
use Rattle.vod_types.specs.declared.tracks.Asked.{Asked}
use Rattle.vod_types.specs.declared.tracks.Kind.{Kind}
use Rattle.vod_types.specs.Tracks.{lead_of}
use Rattle.clip_model.specs.declared.Part.{Part}
use Rattle.clip_model.specs.IsTimeline.{Follow}
use Rattle.segment_model.specs.Cut.{listed_from, listed_part}
use Rattle.segment_model.specs.Grid.{SegmentGrid, PartGrid, part_grid}
use Rattle.segment_model.specs.Laws.{PlaceRises}
use Rattle.segment_model.specs.Listing.{ListedSegment}
use Rattle.segment_model.specs.Lone.{lone_segments}
use Rattle.segment_model.specs.Timeline.{SourcePiece, TrackRows, timeline}
use Rattle.segment_model.proofs.Segments.{listed_one_by_one}
use Rattle.origin_model.specs.Loaded.{CheckedPiece}
use Rattle.origin_model.specs.Sources.{source_piece}
use Rattle.origin_model.specs.Writable.{IsSoundPiece}
use Rattle.seq_cells.specs.Cells.{part_grid_of}
use Rattle.seq_cells.proofs.CellPlaces.{follow-order}
use Rattle.vod_plan.specs.declared.listed_part.ListedPart.{ListedPart}
use Rattle.vod_plan.specs.declared.spans.PlanPiece.{PlanPiece}
use Rattle.vod_plan.specs.ListingCells.{part_rows}
use Rattle.vod_plan.specs.ListingParts.{counts_over, part_over, ArePiecesOfParts}
use Rattle.vod_plan.specs.Looks.{tracks_asked}
use Rattle.vod_plan.specs.Needed.{AreFoundOf}
use Rattle.vod_plan.specs.Segments.{has_rows}
use Rattle.vod_plan.specs.Selected.{rows_planned}
use Rattle.vod_plan.specs.Spans.{piece_view}
use Rattle.vod_plan.proofs.CellLemmas.{planned_rows}
use Rattle.vod_plan.proofs.CellPlans.{some_rows}
use Rattle.vod_plan.proofs.FoundLemmas.{found_rows}

-- ---- some of the pieces

found_drop : (n : ℕ) (cs : List CheckedPiece) (ps : List PlanPiece) → AreFoundOf cs ps → AreFoundOf (drop n cs) (drop n ps)
found_drop zero cs ps are = are
found_drop (suc n) [] [] are = tt
found_drop (suc n) [] (p ∷ ps) are = absurd are
found_drop (suc n) (c ∷ cs) [] are = absurd are
found_drop (suc n) (c ∷ cs) (p ∷ ps) are = found_drop n cs ps are.1

found_take : (n : ℕ) (cs : List CheckedPiece) (ps : List PlanPiece) → AreFoundOf cs ps → AreFoundOf (take n cs) (take n ps)
found_take zero cs ps are = tt
found_take (suc n) [] [] are = tt
found_take (suc n) [] (p ∷ ps) are = absurd are
found_take (suc n) (c ∷ cs) [] are = absurd are
found_take (suc n) (c ∷ cs) (p ∷ ps) are = (are.0, found_take n cs ps are.1)

pub slice-map : {X Y : Type 0} (f : X → Y) (a b : ℕ) (xs : List X) → slice_range (map f xs) a b ≡ map f (slice_range xs a b)
slice-map {X} {Y} f a b xs = ap (λ (ys : List Y). take (b - a) ys) (drop-map f a xs) ∙ take-map f (b - a) (drop a xs)

-- no part
abbrev pub no_part : Part
no_part = record { start = pos 0; length_ms = None; first = 0; count = 0 }

-- how a part is cut into so many cells
abbrev pub grid_with : SegmentGrid → Bool → Part → ℕ → PartGrid
grid_with grid align part cells = record { grid = grid; align = align; start = part.start; cells = cells }

module _ (asked : Asked) (found : List PlanPiece) (cs : List CheckedPiece) (h : ArePiecesOfParts asked found cs) (part : Part) where
  abbrev own_found : List PlanPiece
  own_found = slice_range found part.first (part.first + part.count)

  abbrev own_checked : List CheckedPiece
  own_checked = slice_range cs part.first (part.first + part.count)

  own_sound : All (IsSoundPiece asked) own_checked
  own_sound = All-take (IsSoundPiece asked) (part.first + part.count - part.first) (drop part.first cs) (All-drop (IsSoundPiece asked) part.first cs h.sound)

  own_are : AreFoundOf own_checked own_found
  own_are = found_take (part.first + part.count - part.first) (drop part.first cs) (drop part.first found) (found_drop part.first cs found h.are)

  -- the rows of its pieces
  pub own_rows : (p : ListedPart) → p.leads ≡ lead_of asked → p.pieces.now ≡ own_found → part_rows p ≡ timeline (part_over (map source_piece cs) part).pieces
  own_rows p leads pieces =
      sym (planned_rows p.leads (map piece_view p.pieces.now))
      ∙ ap₂ (λ (kind : Kind) (ps : List PlanPiece). rows_planned kind (map piece_view ps)) leads pieces
      ∙ found_rows asked own_checked own_found own_sound own_are
      ∙ ap (λ (ss : List SourcePiece). timeline ss) (sym (slice-map source_piece part.first (part.first + part.count) cs))

  -- where it has a lead row, a track is asked
  own_asked : (kind : Kind) (ps : List PlanPiece) → kind ≡ lead_of asked → ps ≡ own_found → has_rows kind ps ≡ true → 1 ≤ tracks_asked asked
  own_asked kind ps leads pieces some = (some_rows asked own_checked own_found own_sound own_are (ap₂ (λ (kind : Kind) (ps : List PlanPiece). has_rows kind ps) (sym leads) (sym pieces) ∙ some)).1

  pub own_some : (kind : Kind) (ps : List PlanPiece) → kind ≡ lead_of asked → ps ≡ own_found → has_rows kind ps ≡ true → 1 ≤ length ps
  own_some kind ps leads pieces some =
      let least = (some_rows asked own_checked own_found own_sound own_are (ap₂ (λ (kind : Kind) (ps : List PlanPiece). has_rows kind ps) (sym leads) (sym pieces) ∙ some)).0 in
      let all = ap (λ (ps : List PlanPiece). length ps) pieces in
      omega (arith, least, all)

  pub own_count : (ps : List PlanPiece) → ps ≡ own_found → length ps ≤ part.count
  own_count ps pieces =
      let all = ap (λ (ps : List PlanPiece). length ps) pieces in
      let many = take_most (part.first + part.count - part.first) (drop part.first found) in
      omega (arith, all, many)
    where
      take_most : {X : Type 0} (n : ℕ) (xs : List X) → length (take n xs) ≤ n
      take_most zero xs = omega arith
      take_most (suc n) [] = omega arith
      take_most (suc n) (x ∷ xs) = let later = take_most n xs in omega (arith, later)

-- ---- what is listed

module _ (grid : SegmentGrid) (align : Bool) (asked : Asked) (found : List PlanPiece) (cs : List CheckedPiece) (h : ArePiecesOfParts asked found cs) where
  abbrev sources : List SourcePiece
  sources = map source_piece cs

  abbrev pub left_rows : ℕ → ℕ → List Part → List ListedSegment
  left_rows place number parts = listed_from (lead_of asked) grid align (place + 1) number (map (part_over sources) parts)

  listed_here : (p : ListedPart) (part : Part) (count place number : ℕ) → p.leads ≡ lead_of asked → p.pieces.now ≡ slice_range found part.first (part.first + part.count) → p.part ≡ place → p.number ≡ number
      → part_grid_of p.cells ≡ grid_with grid align part count → count ≡ (part_grid grid align (part_over sources part)).cells → (out out_now : List ListedSegment)
      → ((s : ℤ) → PlaceRises s (part_rows p).lead → PlaceRises s (part_rows p).other → out_now ≡ out ++ lone_segments p.leads p.part p.number (part_grid_of p.cells) (part_rows p))
      → out_now ≡ out ++ listed_part (lead_of asked) place number (part_grid grid align (part_over sources part)) (timeline (part_over sources part).pieces)
  listed_here p part count place number leads pieces place_is number_is grid_is count_is out out_now now =
      let order = h.order part in
      let rows = own_rows asked found cs h part p leads pieces in
      let g : part_grid_of p.cells ≡ part_grid grid align (part_over sources part) = grid_is ∙ ap (grid_with grid align part) count_is in
      now (pos 0) (subst (λ (rows : TrackRows). PlaceRises (pos 0) rows.lead) (sym rows) order.lead) (subst (λ (rows : TrackRows). PlaceRises (pos 0) rows.other) (sym rows) order.other)
      ∙ ap (λ (ls : List ListedSegment). out ++ ls) (
      ap₂ (λ (kind : Kind) (n : ℕ). lone_segments kind n p.number (part_grid_of p.cells) (part_rows p)) leads place_is
      ∙ ap₂ (λ (n : ℕ) (g : PartGrid). lone_segments (lead_of asked) place n g (part_rows p)) number_is g
      ∙ ap (lone_segments (lead_of asked) place number (part_grid grid align (part_over sources part))) rows
      ∙ sym (listed_one_by_one (part_grid grid align (part_over sources part)) (timeline (part_over sources part).pieces) (lead_of asked) place number (pos 0) order.lead))

  pub drop_at : {X : Type 0} (xs : List X) (i : ℕ) (d : X) → i < length xs → drop i xs ≡ get_or xs i d ∷ drop (i + 1) xs
  drop_at xs i d lt = drop-cons xs i d lt ∙ ap (λ n. get_or xs i d ∷ drop n xs) (let one : suc i ≡ i + 1 = omega arith in one)

  pub count_at : (parts : List Part) (counts : List ℕ) (place : ℕ) → place < length parts → counts ≡ counts_over grid align cs parts
      → get_or counts place 0 ≡ (part_grid grid align (part_over sources (get_or parts place no_part))).cells
  count_at [] counts place lt e = absurd (omega arith)
  count_at (p ∷ ps) counts zero lt e = ap (λ (ns : List ℕ). get_or ns 0 0) e
  count_at (p ∷ ps) counts (suc place) lt e = ap (λ (ns : List ℕ). get_or ns (suc place) 0) e ∙ count_at ps (counts_over grid align cs ps) place (omega arith) refl

  pub rest_next : (parts : List Part) (counts : List ℕ) (place number : ℕ) (p : ListedPart) (out out_now due : List ListedSegment) → place < length parts → counts ≡ counts_over grid align cs parts
      → out ++ left_rows place number (drop place parts) ≡ due
      → let part = get_or parts place no_part in let count = get_or counts place 0 in
      p.leads ≡ lead_of asked → p.pieces.now ≡ slice_range found part.first (part.first + part.count) → p.part ≡ place + 1 → p.number ≡ number → part_grid_of p.cells ≡ grid_with grid align part count
      → ((s : ℤ) → PlaceRises s (part_rows p).lead → PlaceRises s (part_rows p).other → out_now ≡ out ++ lone_segments p.leads p.part p.number (part_grid_of p.cells) (part_rows p))
      → out_now ++ left_rows (place + 1) (number + count) (drop (place + 1) parts) ≡ due
  rest_next parts counts place number p out out_now due lt counts_is was leads pieces place_is number_is grid_is now =
      let part = get_or parts place no_part in
      let count = get_or counts place 0 in
      let count_is = count_at parts counts place lt counts_is in
      let here = listed_part (lead_of asked) (place + 1) number (part_grid grid align (part_over sources part)) (timeline (part_over sources part).pieces) in
      let later = left_rows (place + 1) (number + count) (drop (place + 1) parts) in
      let more : place + 1 + 1 ≡ suc (place + 1) = omega arith in
      ap (λ (ls : List ListedSegment). ls ++ later) (listed_here p part count (place + 1) number leads pieces place_is number_is grid_is count_is out out_now now)
      ∙ append_assoc out here later
      ∙ ap₂ (λ (m n : ℕ). out ++ (here ++ listed_from (lead_of asked) grid align m (number + n) (map (part_over sources) (drop (place + 1) parts)))) more count_is
      ∙ ap (λ (ps : List Part). out ++ left_rows place number ps) (sym (drop_at parts place no_part lt))
      ∙ was

  pub rest_ended : (parts : List Part) (place number : ℕ) (out due : List ListedSegment) → length parts ≤ place → out ++ left_rows place number (drop place parts) ≡ due → out ≡ due
  rest_ended parts place number out due past was = sym (append-nil out) ∙ ap (λ (ps : List Part). out ++ left_rows place number ps) (sym (drop_all place parts past)) ∙ was

-- ---- the numbers of the cells

pub sum_left : (counts : List ℕ) (place number all : ℕ) → place < length counts → number + sum (drop place counts) ≡ all
    → (number + get_or counts place 0 + sum (drop (place + 1) counts) ≡ all) × (number + get_or counts place 0 ≤ all)
sum_left counts place number all lt e =
    let left = ap sum (drop-cons counts place 0 lt ∙ ap (λ n. get_or counts place 0 ∷ drop n counts) (let one : suc place ≡ place + 1 = omega arith in one)) in
    let more = sum_by-cons (λ x. x) (get_or counts place 0) (drop (place + 1) counts) in
    (omega (arith, left, more, e), omega (arith, left, more, e))

-- ---- looks

times_more : (a b t : ℕ) → (a + b) * t ≡ a * t + b * t
times_more a zero t = let none : a + 0 ≡ a = omega arith in ap (λ (n : ℕ). n * t) none ∙ (let last : a * t ≡ a * t + 0 * t = omega arith in last)
times_more a (suc b) t =
    let later = times_more a b t in
    let one = suc-mul (a + b) t in
    let two = suc-mul b t in
    ap (λ (n : ℕ). n * t) (let more : a + suc b ≡ suc (a + b) = omega arith in more) ∙ omega (arith, later, one, two)

-- So many looks were taken for the parts before, which have so many pieces and cells.
pub record AreLooksFor (asked : Asked) (left : List Part) (end cells steps steps_now : ℕ) : Type 0 where
  pub at : ℕ
  pub follow : Follow at left end
  pub looks : steps_now ≤ steps + 1408 * (at * tracks_asked asked) + 640 * cells

pub looks_begin : (asked : Asked) (parts : List Part) (end s : ℕ) → Follow 0 parts end → AreLooksFor asked parts end 0 s s
looks_begin asked parts end s follow = record { at = 0; follow = follow; looks = omega arith }

none_looked : (s s₁ x n : ℕ) → s₁ ≤ s → s₁ ≤ s + 1408 * x + 640 * n
none_looked s s₁ x n h = omega (arith, h)

some_looked : (s s₁ a x n : ℕ) → 1 ≤ x → a ≤ x → s₁ ≤ s + 512 * a + 896 + 640 * n → s₁ ≤ s + 1408 * x + 640 * n
some_looked s s₁ a x n one less h = omega (arith, one, less, h)

more_looked : (s₀ s s₁ n m x y z : ℕ) → s ≤ s₀ + 1408 * x + 640 * n → s₁ ≤ s + 1408 * y + 640 * m → z ≡ x + y → s₁ ≤ s₀ + 1408 * z + 640 * (n + m)
more_looked s₀ s s₁ n m x y z h i e = omega (arith, h, i, e)

module _ (asked : Asked) (found : List PlanPiece) (cs : List CheckedPiece) (h : ArePiecesOfParts asked found cs) where
  -- those of one part
  part_looks : (part : Part) (kind : Kind) (ps : List PlanPiece) (s s₁ n : ℕ) → kind ≡ lead_of asked → ps ≡ slice_range found part.first (part.first + part.count)
      → s₁ ≤ s + 512 * length ps + 896 + 640 * n → (has_rows kind ps ≡ false → s₁ ≤ s) → s₁ ≤ s + 1408 * (part.count * tracks_asked asked) + 640 * n
  part_looks part kind ps s s₁ n leads pieces most none = go (has_rows kind ps) refl
    where
      go : (b : Bool) → has_rows kind ps ≡ b → s₁ ≤ s + 1408 * (part.count * tracks_asked asked) + 640 * n
      go false is = none_looked s s₁ (part.count * tracks_asked asked) n (none is)
      go true is =
          let tracks = own_asked asked found cs h part kind ps leads pieces is in
          let least = own_some asked found cs h part kind ps leads pieces is in
          let count = own_count asked found cs h part ps pieces in
          let more : part.count ≤ part.count * tracks_asked asked = le-mul_of_pos_right part.count (omega (arith, tracks)) in
          some_looked s s₁ (length ps) (part.count * tracks_asked asked) n (omega (arith, least, count, more)) (omega (arith, count, more)) most

  pub looks_next : (parts : List Part) (place end cells count : ℕ) (kind : Kind) (ps : List PlanPiece) (s₀ s s₁ : ℕ) → place < length parts → AreLooksFor asked (drop place parts) end cells s₀ s
      → let part = get_or parts place no_part in
      kind ≡ lead_of asked → ps ≡ slice_range found part.first (part.first + part.count) → s₁ ≤ s + 512 * length ps + 896 + 640 * count → (has_rows kind ps ≡ false → s₁ ≤ s)
      → AreLooksFor asked (drop (place + 1) parts) end (cells + count) s₀ s₁
  looks_next parts place end cells count kind ps s₀ s s₁ lt was leads pieces most none =
      let part = get_or parts place no_part in
      let split : drop place parts ≡ part ∷ drop (place + 1) parts = drop-cons parts place no_part lt ∙ ap (λ n. part ∷ drop n parts) (let one : suc place ≡ place + 1 = omega arith in one) in
      let follow = subst (λ (ps : List Part). Follow was.at ps end) split was.follow in
      record {
        at = was.at + part.count;
        follow = follow.1;
        looks = more_looked s₀ s s₁ cells count (was.at * tracks_asked asked) (part.count * tracks_asked asked) ((was.at + part.count) * tracks_asked asked) was.looks
            (part_looks part kind ps s s₁ count leads pieces most none) (times_more was.at part.count (tracks_asked asked));
      }

  pub looks_within : (left : List Part) (end cells all s₀ s : ℕ) → AreLooksFor asked left end cells s₀ s → cells ≤ all → s ≤ s₀ + 1408 * (end * tracks_asked asked) + 640 * all
  looks_within left end cells all s₀ s was few = within (was.at * tracks_asked asked) (end * tracks_asked asked) (mul-le-mul_right (tracks_asked asked) (follow-order was.at left end was.follow)) was.looks
    where
      within : (x y : ℕ) → x ≤ y → s ≤ s₀ + 1408 * x + 640 * cells → s ≤ s₀ + 1408 * y + 640 * all
      within x y h i = omega (arith, h, i, few)
