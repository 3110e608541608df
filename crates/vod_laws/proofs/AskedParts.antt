-- The parts of a timeline that keeps its rules, with the tracks of their files, are parts to which the laws on one part apply.
use Rattle.std.proofs.Common.{◌≡◌, ℕ, zero, suc, ◌+◌, ◌-◌, ◌<◌, ◌≤◌, Bool, List, [], ◌∷◌, ◌++◌, length, map, take, drop, replicate, get_or, All, ℤ, ◌+ℤ◌, ◌≤ℤ◌, ◌<ℤ◌, IfSome, IfNone, Option, Some, None, slice_get, sym, ap, ap₂, ◌∙◌, subst, arith, add-one}
use Rattle.std.specs.List.{AllAdjacentBelow, AllByRecursion}
use Rattle.std.proofs.lemmas.List.{length-map, length-replicate, length-take, length-drop, drop-map, take-map}
use Rattle.std.proofs.lemmas.List.Elements.{All-from_recursion, recursion_from_All, All-map, All-weaker, All-take, All-drop}
use Rattle.std.proofs.lemmas.Option.{same_Some, none-some}
use Rattle.std.proofs.Math.Seq.{take-append_seam, drop-append-add}
use Rattle.vod_types.specs.declared.tracks.Asked.{Asked}
use Rattle.clip_model.specs.declared.Part.{Part}
use Rattle.clip_model.specs.declared.Piece.{Piece}
use Rattle.clip_model.specs.IsTimeline.{IsTimeline, Follow, InPart, OpenEnd, parts_of_pieces}
use Rattle.clip_model.specs.Timeline.{Timeline}
use Rattle.segment_model.specs.Laws.{IsSourcePiece, IsSourcePart, EndsBefore}
use Rattle.segment_model.specs.Timeline.{SourcePiece}
use Rattle.segment_model.proofs.Timelines.{ArePiecesFrom}
use Rattle.vod_source.specs.Stored.{Files}
use Rattle.origin_model.specs.Sources.{source_piece, source_of, part_pieces, source_part}
use Rattle.origin_model.proofs.NeededFiles.{piece_of-checked}
use Rattle.origin_model.proofs.PieceOrder.{dropped_pieces, part_in_order}

-- ---- pieces that stand in order

later_pieces : (t : ℤ) (p : SourcePiece) (ps : List SourcePiece) → ArePiecesFrom t (p ∷ ps) → (u : ℤ) × ArePiecesFrom u ps
later_pieces t p ps h = dropped_pieces 1 t (p ∷ ps) h

before_end : (lo base : ℤ) (hi : Option ℤ) (ps : List SourcePiece) → IfSome hi (λ hi. (lo <ℤ hi) × ArePiecesFrom (base +ℤ hi) ps) → IfSome hi (λ hi. lo <ℤ hi)
before_end lo base None ps h = tt
before_end lo base (Some hi) ps h = h.0

each_of : (t : ℤ) (ps : List SourcePiece) → ArePiecesFrom t ps → AllByRecursion IsSourcePiece ps
each_of t [] h = tt
each_of t (p ∷ ps) h =
    let later = later_pieces t p ps h in
    (record { lead = h.1; other = h.2; bounds = before_end p.lo p.base p.hi ps h.3 }, each_of later.0 ps later.1)

ends_before : (lo base : ℤ) (hi : Option ℤ) (q : SourcePiece) (ps : List SourcePiece) → IfSome hi (λ hi. (lo <ℤ hi) × ArePiecesFrom (base +ℤ hi) (q ∷ ps)) → IfSome hi (λ hi. (base +ℤ hi) ≤ℤ (q.base +ℤ q.lo))
ends_before lo base None q ps h = tt
ends_before lo base (Some hi) q ps h = h.1.0

adjacent : (t : ℤ) (ps : List SourcePiece) (k : ℕ) (d : SourcePiece) → ArePiecesFrom t ps → suc k < length ps → EndsBefore (get_or ps k d) (get_or ps (suc k) d)
adjacent t [] k d h lt = absurd (omega (arith, lt))
adjacent t (p ∷ []) k d h lt = absurd (omega (arith, lt))
adjacent t (p ∷ q ∷ ps) zero d h lt = ends_before p.lo p.base p.hi q ps h.3
adjacent t (p ∷ q ∷ ps) (suc k) d h lt = let later = later_pieces t p (q ∷ ps) h in adjacent later.0 (q ∷ ps) k d later.1 (omega (arith, lt))

in_order : (t : ℤ) (ps : List SourcePiece) → ArePiecesFrom t ps → AllAdjacentBelow EndsBefore ps (length ps)
in_order t ps h k d lt = rw (add-one k) (adjacent t ps k d h (omega (arith, lt)))

-- ---- the pieces of a part

-- where the part of an index begins among the pieces, and what parts its pieces name
record PlaceOf (k at i : ℕ) (parts : List Part) (part : Part) : Type 0 where
  before : ℕ
  first : part.first ≡ at + before
  named : take part.count (drop before (parts_of_pieces k parts)) ≡ replicate part.count (k + i)

replicated-front : (n x : ℕ) (ys : List ℕ) → take n (replicate n x ++ ys) ≡ replicate n x
replicated-front n x ys =
    ap (λ (m : ℕ). take m (replicate n x ++ ys)) (sym (length-replicate n x)) ∙ take-append_seam (replicate n x) ys

replicated-behind : (n x m : ℕ) (ys : List ℕ) → drop (n + m) (replicate n x ++ ys) ≡ drop m ys
replicated-behind n x m ys =
    ap (λ (l : ℕ). drop (l + m) (replicate n x ++ ys)) (sym (length-replicate n x)) ∙ drop-append-add (replicate n x) ys m

place_of : (k at end i : ℕ) (parts : List Part) (part : Part) → Follow at parts end → slice_get parts i ≡ Some part → PlaceOf k at i parts part
place_of k at end i [] part h e = absurd (none-some part e)
place_of k at end zero (p ∷ ps) part h e =
    subst (PlaceOf k at zero (p ∷ ps)) (same_Some p part e)
    (record {
      before = 0;
      first = omega (arith, h.0);
      named = replicated-front p.count k (parts_of_pieces (k + 1) ps) ∙ ap (replicate p.count) (let same : k ≡ k + 0 = omega arith in same);
    })
place_of k at end (suc i) (p ∷ ps) part h e =
    let rest = place_of (k + 1) (at + p.count) end i ps part h.1 e in
    record {
      before = p.count + rest.before;
      first = omega (arith, rest.first);
      named = ap (take part.count) (replicated-behind p.count k rest.before (parts_of_pieces (k + 1) ps)) ∙ rest.named
          ∙ ap (replicate part.count) (let same : (k + 1) + i ≡ k + suc i = omega arith in same);
    }

all_named : (n i : ℕ) (ps : List Piece) → map (λ p. p.part) ps ≡ replicate n i → AllByRecursion (λ p. p.part ≡ i) ps
all_named n i [] e = tt
all_named zero i (p ∷ ps) e = absurd (cc)
all_named (suc n) i (p ∷ ps) e =
    let first : p.part ≡ i = cc in
    let rest : map (λ q. q.part) ps ≡ replicate n i = cc in
    (first, all_named n i ps rest)

module _ (t : Timeline) (h : IsTimeline t.pieces t.parts) (i : ℕ) (part : Part) (at : slice_get t.parts i ≡ Some part) where
  names : map (λ p. p.part) (part_pieces t part) ≡ replicate part.count i
  names =
      let place = place_of 0 0 (length t.pieces) i t.parts part h.follow at in
      let n : part.first + part.count - part.first ≡ part.count = omega arith in
      let m : part.first ≡ place.before = omega (arith, place.first) in
      let same : 0 + i ≡ i = omega arith in
      sym (ap (take (part.first + part.count - part.first)) (drop-map (λ (p : Piece). p.part) part.first t.pieces) ∙ take-map (λ (p : Piece). p.part) (part.first + part.count - part.first) (drop part.first t.pieces))
      ∙ ap₂ (λ (n m : ℕ). take n (drop m (map (λ (p : Piece). p.part) t.pieces))) n m
      ∙ ap (λ (ns : List ℕ). take part.count (drop place.before ns)) h.of_parts
      ∙ place.named
      ∙ ap (replicate part.count) same

  -- none of them begins before the part
  from_start : All (λ p. part.start ≤ℤ (p.base +ℤ p.lo)) (part_pieces t part)
  from_start =
      All-from_recursion (λ (p : Piece). part.start ≤ℤ (p.base +ℤ p.lo)) (part_pieces t part)
      (both (part_pieces t part) (all_named part.count i (part_pieces t part) names)
      (recursion_from_All (InPart t.parts) (part_pieces t part) (All-take (InPart t.parts) _ _ (All-drop (InPart t.parts) part.first t.pieces h.in_parts))))
    where
      both : (ps : List Piece) → AllByRecursion (λ p. p.part ≡ i) ps → AllByRecursion (InPart t.parts) ps → AllByRecursion (λ p. part.start ≤ℤ (p.base +ℤ p.lo)) ps
      both [] named within = tt
      both (p ∷ ps) named within = (
        subst (λ (o : Option Part). IfSome o (λ q. q.start ≤ℤ (p.base +ℤ p.lo))) (ap (slice_get t.parts) named.0 ∙ at) within.0,
        both ps named.1 within.1,
      )

  -- an open end is that of an only piece
  open_ends : All (λ p. IfNone p.hi (length (part_pieces t part) ≡ 1)) (part_pieces t part)
  open_ends =
      λ k d lt. only (get_or (part_pieces t part) k d).hi
      (omega (arith, lt, length-take (part.first + part.count - part.first) (drop part.first t.pieces), length-drop part.first t.pieces))
      (omega (arith, lt))
      (All-take (OpenEnd t.pieces) _ _ (All-drop (OpenEnd t.pieces) part.first t.pieces h.open_ends) k d lt)
    where
      only : (hi : Option ℤ) → length (part_pieces t part) ≤ length t.pieces → 0 < length (part_pieces t part) → IfNone hi (length t.pieces ≡ 1) → IfNone hi (length (part_pieces t part) ≡ 1)
      only None le some one = omega (arith, le, some, one)
      only (Some x) le some one = tt

  pub is_source_part : (files : Files) (edits : Bool) (asked : Asked) → IsSourcePart (source_part files edits asked t part)
  unfolding source_part source_piece
  is_source_part files edits asked =
      let source = source_of files edits asked in
      let ps = part_pieces t part in
      let ordered = part_in_order files edits asked t part h in
      record {
        each = All-from_recursion IsSourcePiece (map source ps) (each_of ordered.0 (map source ps) ordered.1);
        within = All-map (λ (p : SourcePiece). part.start ≤ℤ (p.base +ℤ p.lo)) source ps
            (All-weaker (λ (p : Piece). part.start ≤ℤ (p.base +ℤ p.lo)) (λ p. part.start ≤ℤ ((source p).base +ℤ (source p).lo))
            (λ p le. subst (λ (q : Piece). part.start ≤ℤ (q.base +ℤ q.lo)) (sym (piece_of-checked files edits asked p)) le) ps from_start);
        in_order = in_order ordered.0 (map source ps) ordered.1;
        open_end = subst (λ (n : ℕ). All (λ (p : SourcePiece). IfNone p.hi (n ≡ 1)) (map source ps)) (sym (length-map ps source))
            (All-map (λ (p : SourcePiece). IfNone p.hi (length ps ≡ 1)) source ps
            (All-weaker (λ (p : Piece). IfNone p.hi (length ps ≡ 1)) (λ p. IfNone (source p).hi (length ps ≡ 1))
            (λ p one. subst (λ (q : Piece). IfNone q.hi (length ps ≡ 1)) (sym (piece_of-checked files edits asked p)) one) ps open_ends));
      }
