-- The numbers of cells of parts, and the pieces that are looked at where no cell is named.
use Rattle.std.proofs.Common.{◌≡◌, ℕ, suc, ◌+◌, ◌≤◌, Bool, true, false, List, [], ◌∷◌, All, ◌^◌, ◌≤ℤ◌, ◌+ℤ◌, pos, negsuc, div-mul-le_self, unsigned_abs, length, map, Option, Some, None, Result, Ok, Err, ℤ, refl, sym, ap, ap₂, ◌∙◌, arith, true≢false}
use Rattle.std.specs.Prelude.{is_some, unwrap_or}
use Rattle.std.specs.List.{list_all, position_or_len}
use Rattle.std.specs.Result.{result_unwrap_or}
use Rattle.std.proofs.lemmas.Bool.{and_parts}
use Rattle.std.proofs.lemmas.Int.{ints}
use Rattle.std.proofs.lemmas.List.{take_all}
use Rattle.std.proofs.lemmas.List.Elements.{All-cons, All-head, All-nil, All-tail}
use Rattle.vod_types.specs.declared.refusal.Refusal.{Refusal}
use Rattle.vod_types.specs.declared.tracks.Asked.{Asked}
use Rattle.vod_types.specs.Lists.{through_first}
use Rattle.vod_types.specs.Results.{◌>>=◌, each_in_turn}
use Rattle.clip_model.specs.declared.Part.{Part}
use Rattle.clip_model.specs.declared.Piece.{Piece}
use Rattle.clip_model.specs.IsTimeline.{IsTime}
use Rattle.clip_model.specs.Timeline.{Timeline}
use Rattle.segment_model.specs.Grid.{SegmentGrid, cells, cell_counts, length_of, milliseconds}
use Rattle.segment_model.specs.Rows.{TimedRow, end_of}
use Rattle.segment_model.specs.Timeline.{SourcePiece, lead_end}
use Rattle.flat_segments.proofs.Places.{cells_small}
use Rattle.vod_source.specs.Stored.{Files}
use Rattle.origin_model.specs.Loaded.{CheckedPiece, checked, unread_piece}
use Rattle.origin_model.specs.Plans.{counts}
use Rattle.origin_model.specs.Sources.{is_declared, source_of, source_part, source_piece}
use Rattle.flat_segments.specs.Needed.{stops}
use Rattle.flat_segments.specs.Planned.{cutting_of, declared_counts}
use Rattle.flat_samples.specs.Rows.{IsPlacedRow}

-- ---- the pieces that are looked at

never : {X : Type 0} (xs : List X) → position_or_len (λ (x : X). false) xs ≡ length xs
never [] = refl
never (x ∷ xs) = ap (λ (n : ℕ). 1 + n) (never xs) ∙ (let more : 1 + length xs ≡ suc (length xs) = omega arith in more)

through_none : {X : Type 0} (xs : List X) → through_first (λ (x : X). false) xs ≡ xs
through_none xs = take_all (position_or_len (λ x. false) xs + 1) xs (let many = never xs in omega (arith, many))

pub seen_none : (known : Files) (edits : Bool) (asked : Asked) (ps : List Piece) → through_first (stops known edits asked None) ps ≡ ps
seen_none known edits asked ps = through_none ps

-- checked pieces are the sources of their pieces
pub sources_are : (known : Files) (edits : Bool) (asked : Asked) (ps : List Piece) (cs : List CheckedPiece) → each_in_turn (checked known edits asked) ps ≡ Ok cs → map (source_of known edits asked) ps ≡ map source_piece cs
sources_are known edits asked [] cs e = let none : [] ≡ cs = cc in ap (map source_piece) none
sources_are known edits asked (p ∷ ps) cs e = by_first (λ ds. sources_are known edits asked ps ds) (checked known edits asked p) refl e
  where
    by_rest : (c : CheckedPiece) (r : Result (List CheckedPiece) Refusal) → source_of known edits asked p ≡ source_piece c → ((ds : List CheckedPiece) → r ≡ Ok ds → map (source_of known edits asked) ps ≡ map source_piece ds)
        → (r >>= λ ys. Ok (c ∷ ys)) ≡ Ok cs → map (source_of known edits asked) (p ∷ ps) ≡ map source_piece cs
    by_rest c (Err d) first ih e = absurd cc
    by_rest c (Ok ds) first ih e = let same : c ∷ ds ≡ cs = cc in ap₂ (λ (s : SourcePiece) (ss : List SourcePiece). s ∷ ss) first (ih ds refl) ∙ ap (map source_piece) same

    by_first : ((ds : List CheckedPiece) → each_in_turn (checked known edits asked) ps ≡ Ok ds → map (source_of known edits asked) ps ≡ map source_piece ds)
        → (r : Result CheckedPiece Refusal) → checked known edits asked p ≡ r → (r >>= λ y. each_in_turn (checked known edits asked) ps >>= λ ys. Ok (y ∷ ys)) ≡ Ok cs → map (source_of known edits asked) (p ∷ ps) ≡ map source_piece cs
    by_first ih (Err d) is e = absurd cc
    by_first ih (Ok c) is e =
        by_rest c (each_in_turn (checked known edits asked) ps) (ap (λ (r : Result CheckedPiece Refusal). source_piece (result_unwrap_or r (unread_piece p))) is) ih e

-- ---- parts whose lengths are declared

either_length : (o : Option ℕ) → is_some o ≡ true → (x y : ℕ) → unwrap_or o x ≡ unwrap_or o y
either_length None h x y = absurd (true≢false (sym h))
either_length (Some n) h x y = refl

module _ (known : Files) (edits : Bool) (g : SegmentGrid) (align : Bool) (asked : Asked) (t : Timeline) where
  counts_declared : (parts : List Part) → list_all (λ part. is_some part.length_ms) parts ≡ true → cell_counts g align (map (source_part known edits asked t) parts) ≡ declared_counts g parts
  unfolding source_part length_of
  counts_declared [] h = refl
  counts_declared (part ∷ parts) h =
      let both = and_parts (is_some part.length_ms) (list_all (λ q. is_some q.length_ms) parts) h in
      ap₂ (λ (n : ℕ) (ns : List ℕ). cells g n ∷ ns) (either_length part.length_ms both.0 _ 0) (counts_declared parts both.1)

  pub counts_are : is_declared t ≡ true → counts (cutting_of known g align edits) asked t ≡ declared_counts g t.parts
  counts_are declared = counts_declared t.parts declared

-- ---- the number of cells of such a part

end_low : (start : ℤ) (rows : List TimedRow) → start ≤ℤ pos (2 ^ 43) → All IsPlacedRow rows → lead_end start rows ≤ℤ pos (2 ^ 43)
end_low start [] low h = low
end_low start (r ∷ rows) low h = end_low (end_of r) rows (within r (All-head IsPlacedRow r rows h)) (All-tail IsPlacedRow r rows h)
  where
    sum_low : (place : ℤ) (duration : ℕ) → unsigned_abs place ≤ 2 ^ 42 → duration ≤ 2 ^ 40 → (place +ℤ pos duration) ≤ℤ pos (2 ^ 43)
    sum_low (pos n) duration a b = omega (arith, ints, a, b)
    sum_low (negsuc n) duration a b = omega (arith, ints, a, b)

    within : (r : TimedRow) → IsPlacedRow r → end_of r ≤ℤ pos (2 ^ 43)
    within r p = sum_low r.place r.duration p.place p.duration

milliseconds_low : (end : ℤ) → end ≤ℤ pos (2 ^ 43) → milliseconds end ≤ 2 ^ 41
milliseconds_low (pos n) h = let whole = div-mul-le_self (n + 89) 90 in omega (arith, ints, h, whole)
milliseconds_low (negsuc n) h = omega arith

pub count_low : (g : SegmentGrid) (start : ℤ) (rows : List TimedRow) → IsTime start → All IsPlacedRow rows → cells g (milliseconds (lead_end start rows)) ≤ 2 ^ 42
count_low g start rows time h =
    let few = cells_small g (milliseconds (lead_end start rows)) in
    let short = milliseconds_low (lead_end start rows) (end_low start rows (start_low start time) h) in
    omega (arith, few, short)
  where
    start_low : (z : ℤ) → unsigned_abs z ≤ 2 ^ 41 → z ≤ℤ pos (2 ^ 43)
    start_low (pos n) h = omega (arith, ints, h)
    start_low (negsuc n) h = omega (arith, ints)

pub one_low : (count : ℕ) → count ≤ 2 ^ 42 → All (λ (n : ℕ). n ≤ 2 ^ 42) (count ∷ [])
one_low count h = All-cons (λ (n : ℕ). n ≤ 2 ^ 42) count [] h (All-nil (λ (n : ℕ). n ≤ 2 ^ 42))
