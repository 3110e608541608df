-- A timeline keeps the properties of timelines.
use Rattle.std.proofs.Common.{◌≡◌, ℕ, zero, suc, ◌+◌, ◌-◌, ◌^◌, ◌≤◌, ◌<◌, List, [], ◌∷◌, ◌++◌, length, length-append, append_assoc, add-one, map, replicate, get_or, Option, Some, None, refl, ap, ◌∙◌, sym, subst, arith, lit≤, ℤ, pos, ◌+ℤ◌, ◌≤ℤ◌}
use Rattle.std.specs.Prelude.{option_map, max, ⊤, flat_map, sum_by, slice_get, IfSome, IfNone}
use Rattle.std.specs.List.{AllByRecursion, AllAdjacentBelow, enumerate_from}
use Rattle.std.proofs.lemmas.Int.{ints, clamps}
use Rattle.std.proofs.lemmas.List.{map-append}
use Rattle.std.proofs.lemmas.List.Sums.{sum_by-cons}
use Rattle.vod_types.specs.declared.tracks.TrackName.{TrackName}
use Rattle.vod_types.specs.declared.paths.Window.{Window}
use Rattle.clip_model.specs.declared.Piece.{Piece}
use Rattle.clip_model.specs.declared.Part.{Part}
use Rattle.clip_model.specs.Mapping.{file_count}
use Rattle.clip_model.specs.Trim.{units, trimmed}
use Rattle.clip_model.specs.Timeline.{placed_pieces, Span, windowed_span, end_within, is_lasting, kept_spans, with_pieces, parts_from}
use Rattle.clip_model.specs.IsTimeline.{Follow, parts_of_pieces, IsPart, InPart, EndsBefore, OpenLength}
use Rattle.vod_types.proofs.StepLemmas.{by_bool}
use Rattle.clip_model.proofs.Chains.{highest, Chain, chain_from, chain-append, time_in}
use Rattle.clip_model.proofs.ClipChains.{shown_units, longest, Row, row_chain, part_trimmed, part_placed, each-append, length-trimmed, length-placed_pieces}

-- ---- parts and their pieces, one after another

pub record Share (part : ℕ) (at mid : ℤ) (s : Span) (ps : List Piece) : Type 0 where
  pub begins : at ≤ℤ units (pos s.start)
  pub order : units (pos s.start) ≤ℤ mid
  pub duration : ℕ
  pub declared : s.length ≡ Some duration
  pub short : duration ≤ longest
  pub chain : Chain (units (pos s.start)) ps mid
  pub parts : AllByRecursion (λ p. p.part ≡ part) ps

abbrev pub Shares : ℕ → ℤ → List (Span × List Piece) → ℤ → Type 0
Shares k at [] end = ⊤
Shares k at (x ∷ xs) end = (mid : ℤ) × (Share k at mid x.0 x.1 × (mid ≤ℤ end) × Shares (k + 1) mid xs end)

pub shares_from : (k : ℕ) (a b end : ℤ) (xs : List (Span × List Piece)) → a ≤ℤ b → Shares k b xs end → Shares k a xs end
shares_from k a b end [] h c = tt
shares_from k a b end (x ∷ xs) h c =
    let s = c.1.0 in
    (c.0, (record { begins = omega (arith, ints, h, s.begins); order = s.order; duration = s.duration; declared = s.declared; short = s.short; chain = s.chain; parts = s.parts }, c.1.1, c.1.2))

pub shares_chain : (k : ℕ) (at end : ℤ) (xs : List (Span × List Piece)) → at ≤ℤ end → Shares k at xs end → Chain at (flat_map (λ s. s.1) xs) end
shares_chain k at end [] h c = tt
shares_chain k at end (x ∷ xs) h c =
    let s = c.1.0 in
    chain-append at c.0 end x.1 (flat_map (λ y. y.1) xs) (omega (arith, ints, s.begins, s.order)) c.1.1
    (chain_from at (units (pos x.0.start)) c.0 x.1 s.begins s.chain)
    (shares_chain (k + 1) c.0 end xs c.1.1 c.1.2)

pub parts_in : (k first : ℕ) (at end : ℤ) (xs : List (Span × List Piece)) → pos 0 ≤ℤ at → end ≤ℤ pos highest → Shares k at xs end → AllByRecursion IsPart (parts_from first xs)
parts_in k first at end [] h g c = tt
parts_in k first at end (x ∷ xs) h g c =
    let s = c.1.0 in
    let Q : Option ℕ → Type 0 = λ o. IfSome o (λ n. n ≤ 2 ^ 41) in (
      record {
        start = time_in (units (pos x.0.start)) (omega (arith, ints)) (omega (arith, ints, s.order, c.1.1, g));
        low = omega (arith, ints);
        length = subst Q (sym s.declared) (omega (arith, s.short));
      },
      parts_in (k + 1) (first + length x.1) c.0 end xs (omega (arith, ints, s.order)) g c.1.2,
    )

pub lengths_closed : (k first : ℕ) (at end : ℤ) (all : List Part) (xs : List (Span × List Piece)) → Shares k at xs end → AllByRecursion (OpenLength all) (parts_from first xs)
lengths_closed k first at end all [] c = tt
lengths_closed k first at end all (x ∷ xs) c =
    let Q : Option ℕ → Type 0 = λ o. IfNone o ((length all ≡ 1) × (length x.1 ≡ 1) × (units (pos x.0.start) ≡ pos 0)) in
    (subst Q (sym c.1.0.declared) tt, lengths_closed (k + 1) (first + length x.1) c.0 end all xs c.1.2)

pub parts_follow : (first : ℕ) (xs : List (Span × List Piece)) → Follow first (parts_from first xs) (first + length (flat_map (λ s. s.1) xs))
parts_follow first [] = omega arith
parts_follow first (x ∷ xs) =
    let P : ℕ → Type 0 = λ n. Follow (first + length x.1) (parts_from (first + length x.1) xs) n in
    let rest = flat_map (λ s. s.1) xs in
    let same : (first + length x.1) + length rest ≡ first + length (x.1 ++ rest) = omega (arith, length-append x.1 rest) in
    (refl, subst P same (parts_follow (first + length x.1) xs))

pub map_part : (k : ℕ) (ps : List Piece) → AllByRecursion (λ p. p.part ≡ k) ps → map (λ p. p.part) ps ≡ replicate (length ps) k
map_part k [] h = refl
map_part k (p ∷ ps) h = ap (λ n. n ∷ map (λ q. q.part) ps) h.0 ∙ ap (λ ns. k ∷ ns) (map_part k ps h.1)

pub parts_of : (k first : ℕ) (at end : ℤ) (xs : List (Span × List Piece)) → Shares k at xs end → map (λ p. p.part) (flat_map (λ s. s.1) xs) ≡ parts_of_pieces k (parts_from first xs)
parts_of k first at end [] c = refl
parts_of k first at end (x ∷ xs) c =
    map-append (λ p. p.part) x.1 (flat_map (λ s. s.1) xs)
    ∙ ap (λ ns. ns ++ map (λ p. p.part) (flat_map (λ s. s.1) xs)) (map_part k x.1 c.1.0.parts)
    ∙ ap (λ ns. replicate (length x.1) k ++ ns) (parts_of (k + 1) (first + length x.1) c.0 end xs c.1.2)

pub slice_get_after : {X : Type 0} (xs : List X) (y : X) (ys : List X) (k : ℕ) → length xs ≡ k → slice_get (xs ++ y ∷ ys) k ≡ Some y
slice_get_after {X} xs y ys k e = let P : ℕ → Type 0 = λ n. slice_get (xs ++ y ∷ ys) n ≡ Some y in subst P e (at_length xs y ys)
  where
    at_length : {X : Type 0} (xs : List X) (y : X) (ys : List X) → slice_get (xs ++ y ∷ ys) (length xs) ≡ Some y
    at_length [] y ys = refl
    at_length (x ∷ xs) y ys = at_length xs y ys

pub chain_in_part : (parts : List Part) (q : Part) (k : ℕ) (at end : ℤ) (ps : List Piece) → slice_get parts k ≡ Some q → q.start ≤ℤ at → Chain at ps end → AllByRecursion (λ p. p.part ≡ k) ps → AllByRecursion (InPart parts) ps
chain_in_part parts q k at end [] e h c same = tt
chain_in_part parts q k at end (p ∷ ps) e h c same =
    let l = c.1.0 in
    let Q : Option Part → Type 0 = λ o. IfSome o (λ r. r.start ≤ℤ (p.base +ℤ p.lo)) in (
      subst Q (sym (ap (slice_get parts) same.0 ∙ e)) (omega (arith, ints, h, l.begins)),
      chain_in_part parts q k (p.base +ℤ c.0) end ps e (omega (arith, ints, h, l.begins, l.above)) c.1.1 same.1,
    )

pub pieces_in_parts : (before : List Part) (k first : ℕ) (at end : ℤ) (xs : List (Span × List Piece)) → length before ≡ k → Shares k at xs end → AllByRecursion (InPart (before ++ parts_from first xs)) (flat_map (λ s. s.1) xs)
pieces_in_parts before k first at end [] e c = tt
pieces_in_parts before k first at end (x ∷ xs) e c =
    let s = c.1.0 in
    let q : Part = record { start = units (pos x.0.start); length_ms = x.0.length; first = first; count = length x.1 } in
    let later = parts_from (first + length x.1) xs in
    let P : List Part → Type 0 = λ ps. AllByRecursion (InPart ps) (flat_map (λ y. y.1) xs) in
    let count : length (before ++ q ∷ []) ≡ k + 1 = omega (arith, length-append before (q ∷ []), e) in
    each-append (InPart (before ++ q ∷ later)) x.1 (flat_map (λ y. y.1) xs)
    (chain_in_part (before ++ q ∷ later) q k (units (pos x.0.start)) c.0 x.1 (slice_get_after before q later k e) (omega (arith, ints)) s.chain s.parts)
    (subst P (append_assoc before (q ∷ []) later) (pieces_in_parts (before ++ q ∷ []) (k + 1) (first + length x.1) c.0 end xs count c.1.2))

pub adjacent : (at end : ℤ) (ps : List Piece) (k : ℕ) (d : Piece) → Chain at ps end → suc k < length ps → EndsBefore (get_or ps k d) (get_or ps (suc k) d)
adjacent at end [] k d c h = absurd (omega (arith, h))
adjacent at end (p ∷ []) k d c h = absurd (omega (arith, h))
adjacent at end (p ∷ q ∷ ps) zero d c h =
    let Q : Option ℤ → Type 0 = λ o. IfSome o (λ hi. (p.base +ℤ hi) ≤ℤ (q.base +ℤ q.lo)) in
    subst Q (sym c.1.0.is) c.1.1.1.0.begins
adjacent at end (p ∷ q ∷ ps) (suc k) d c h = adjacent (p.base +ℤ c.0) end (q ∷ ps) k d c.1.1 (omega (arith, h))

pub in_order : (at end : ℤ) (ps : List Piece) → Chain at ps end → AllAdjacentBelow EndsBefore ps (length ps)
in_order at end ps c k d h = rw (add-one k) (adjacent at end ps k d c (omega (arith, h)))

-- ---- the parts that a window leaves

-- parts one after another, before a window
abbrev pub SpanRow : ℕ → List Span → ℕ → Type 0
SpanRow at [] end = at ≡ end
SpanRow at (s ∷ ss) end = (n : ℕ) × ((s.start ≡ at) × (s.length ≡ Some n) × Row at s.clips (at + n) × SpanRow (at + n) ss end)

pub span_order : (at end : ℕ) (ss : List Span) → SpanRow at ss end → at ≤ end
span_order at end [] r = omega (arith, r)
span_order at end (s ∷ ss) r = omega (arith, span_order (at + r.0) end ss r.1.3)

abbrev pub shares : Window → List ℕ → List TrackName → ℕ → List Span → List (Span × List Piece)
shares w root tracks k ss = map (λ e. with_pieces root tracks w e.0 e.1) (enumerate_from k ss)

pub end_within_le : (to : Option ℕ) (end : ℕ) → end_within to end ≤ end
end_within_le None end = omega arith
end_within_le (Some to) end = omega arith

pub shares_in : (w : Window) (root : List ℕ) (tracks : List TrackName) (k at end : ℕ) (ss : List Span) → SpanRow at ss end → end ≤ longest
    → Shares k (shown_units w (units (pos at))) (shares w root tracks k (kept_spans w ss)) (shown_units w (units (pos end)))
shares_in w root tracks k at end [] r short = tt
shares_in w root tracks k at end (s ∷ ss) r short =
    let n = r.0 in
    let mid = shown_units w (units (pos (at + n))) in
    let order = span_order (at + n) end ss r.1.3 in
    let left = λ (m : ℕ). end_within w.to (s.start + m) - max s.start w.from in
    by_bool (is_lasting (windowed_span w s)) (windowed_span w s ∷ kept_spans w ss) (kept_spans w ss)
    (λ ts. Shares k (shown_units w (units (pos at))) (shares w root tracks k ts) (shown_units w (units (pos end))))
    (λ e. (
      mid,
      (
        record {
          begins = omega (arith, ints, clamps, r.1.0);
          order = omega (arith, ints, clamps, r.1.0);
          duration = left n;
          declared = ap (option_map left) r.1.1;
          short = omega (arith, end_within_le w.to (s.start + n), r.1.0, order, short);
          chain = chain_from (units (pos (max s.start w.from - w.from))) (shown_units w (units (pos at))) mid (trimmed w (flat_map (placed_pieces root tracks k) s.clips)) (omega (arith, ints, clamps, r.1.0)) (row_chain w root tracks k at (at + n) s.clips r.1.2);
          parts = part_trimmed w k (flat_map (placed_pieces root tracks k) s.clips) (part_placed root tracks k s.clips);
        },
        omega (arith, ints, clamps, order),
        shares_in w root tracks (k + 1) (at + n) end ss r.1.3 short,
      ),
    ))
    (λ e. shares_from k (shown_units w (units (pos at))) mid (shown_units w (units (pos end))) (shares w root tracks k (kept_spans w ss)) (omega (arith, ints, clamps)) (shares_in w root tracks k (at + n) end ss r.1.3 short))

-- ---- counts

abbrev pub span_files : Span → ℕ
span_files s = sum_by (λ p. file_count p.clip) s.clips

pub shares_count : (w : Window) (root : List ℕ) (tracks : List TrackName) (k : ℕ) (ss : List Span)
    → (length (shares w root tracks k (kept_spans w ss)) ≤ length ss) × (length (flat_map (λ s. s.1) (shares w root tracks k (kept_spans w ss))) ≤ sum_by span_files ss)
shares_count w root tracks k [] = (lit≤ tt, lit≤ tt)
shares_count w root tracks k (s ∷ ss) =
    by_bool (is_lasting (windowed_span w s)) (windowed_span w s ∷ kept_spans w ss) (kept_spans w ss)
    (λ ts. (length (shares w root tracks k ts) ≤ length (s ∷ ss)) × (length (flat_map (λ x. x.1) (shares w root tracks k ts)) ≤ sum_by span_files (s ∷ ss)))
    (λ e. let rest = shares_count w root tracks (k + 1) ss in
    let pieces = flat_map (placed_pieces root tracks k) s.clips in
    let later = flat_map (λ x. x.1) (shares w root tracks (k + 1) (kept_spans w ss)) in
    let all : length (trimmed w pieces ++ later) ≡ length (trimmed w pieces) + length later = length-append (trimmed w pieces) later in (
      omega (arith, rest.0),
      (let bound : length (trimmed w pieces ++ later) ≤ sum_by span_files (s ∷ ss) = omega (arith, all, length-trimmed w pieces, length-placed_pieces root tracks k s.clips, rest.1, sum_by-cons span_files s ss) in bound),
    ))
    (λ e. let rest = shares_count w root tracks k ss in (omega (arith, rest.0), omega (arith, rest.1, sum_by-cons span_files s ss)))
