-- Parts and their pieces, as far as a loop has come.
use Rattle.std.proofs.Common.{◌≡◌, ℕ, suc, ◌+◌, ◌≤◌, List, [], ◌∷◌, ◌++◌, append_assoc, length, length-append, true, refl, ap, sym, ◌∙◌, inl, inr, arith}
use Rattle.std.specs.Prelude.{flat_map, sum_by}
use Rattle.std.proofs.lemmas.Bool.{cases_Bool}
use Rattle.vod_types.specs.declared.tracks.TrackName.{TrackName}
use Rattle.vod_types.specs.declared.paths.Window.{Window}
use Rattle.clip_model.specs.declared.Piece.{Piece}
use Rattle.clip_model.specs.Mapping.{file_count}
use Rattle.clip_model.specs.Trim.{trimmed}
use Rattle.clip_model.specs.Timeline.{Placed, placed_pieces, Span, spans, windowed_span, is_lasting, parts_from, Timeline}
use Rattle.std.proofs.lemmas.List.Sums.{sum_by-cons}
use Rattle.clip_model.proofs.ClipChains.{length-trimmed, length-clip_pieces, length-placed_pieces}
use Rattle.clip_model.proofs.TimelineLemmas.{span_files, shares_count}
use Rattle.seq_timeline.specs.Spans.{part_of, kept_shares, with_shares}

flat_map_second : (xs ys : List (Span × List Piece)) → flat_map (λ s. s.1) (xs ++ ys) ≡ flat_map (λ s. s.1) xs ++ flat_map (λ s. s.1) ys
flat_map_second [] ys = refl
flat_map_second (x ∷ xs) ys = ap (λ ps. x.1 ++ ps) (flat_map_second xs ys) ∙ sym (append_assoc x.1 (flat_map (λ s. s.1) xs) (flat_map (λ s. s.1) ys))

parts_from-append : (n : ℕ) (xs ys : List (Span × List Piece)) → parts_from n (xs ++ ys) ≡ parts_from n xs ++ parts_from (n + length (flat_map (λ s. s.1) xs)) ys
parts_from-append n [] ys = let same : n ≡ n + 0 = omega arith in ap (λ m. parts_from m ys) same
parts_from-append n (x ∷ xs) ys =
    let rest = flat_map (λ s. s.1) xs in
    let same : (n + length x.1) + length rest ≡ n + length (x.1 ++ rest) = omega (arith, length-append x.1 rest) in
    ap (λ ps. part_of x.0 n (length x.1) ∷ ps) (parts_from-append (n + length x.1) xs ys ∙ ap (λ m. parts_from (n + length x.1) xs ++ parts_from m ys) same)

length-parts_from : (n : ℕ) (xs : List (Span × List Piece)) → length (parts_from n xs) ≡ length xs
length-parts_from n [] = refl
length-parts_from n (x ∷ xs) = ap (λ m. suc m) (length-parts_from (n + length x.1) xs)

with_shares-append : (t : Timeline) (xs ys : List (Span × List Piece)) → with_shares t (xs ++ ys) ≡ with_shares (with_shares t xs) ys
with_shares-append t xs ys =
    let front = flat_map (λ s. s.1) xs in
    let back = flat_map (λ s. s.1) ys in
    let first = length t.pieces in
    let same : first + length front ≡ length (t.pieces ++ front) = sym (length-append t.pieces front) in
    let pieces : t.pieces ++ flat_map (λ s. s.1) (xs ++ ys) ≡ (t.pieces ++ front) ++ back = ap (λ ps. t.pieces ++ ps) (flat_map_second xs ys) ∙ sym (append_assoc t.pieces front back) in
    let parts : t.parts ++ parts_from first (xs ++ ys) ≡ (t.parts ++ parts_from first xs) ++ parts_from (length (t.pieces ++ front)) ys =
    ap (λ ps. t.parts ++ ps) (parts_from-append first xs ys ∙ ap (λ m. parts_from first xs ++ parts_from m ys) same) ∙ sym (append_assoc t.parts (parts_from first xs) (parts_from (length (t.pieces ++ front)) ys)) in
    λ i. record { pieces = pieces i; parts = parts i }

kept_shares-cons : (root : List ℕ) (tracks : List TrackName) (w : Window) (k : ℕ) (s : Span) (ss : List Span)
    → kept_shares root tracks w k (s ∷ ss) ≡ kept_shares root tracks w k (s ∷ []) ++ kept_shares root tracks w (k + length (kept_shares root tracks w k (s ∷ []))) ss
kept_shares-cons root tracks w k s ss = elim (cases_Bool (is_lasting (windowed_span w s))) [
  | inl e ↦ rw e refl
  | inr e ↦ let same : k ≡ k + 0 = omega arith in rw e (ap (λ n. kept_shares root tracks w n ss) same)
]

-- one part more
pub shares_next : (root : List ℕ) (tracks : List TrackName) (w : Window) (t now all : Timeline) (s : Span) (ss : List Span) → now ≡ with_shares t (kept_shares root tracks w (length t.parts) (s ∷ []))
    → with_shares t (kept_shares root tracks w (length t.parts) (s ∷ ss)) ≡ all → with_shares now (kept_shares root tracks w (length now.parts) ss) ≡ all
shares_next root tracks w t now all s ss now_is so_far =
    let k = length t.parts in
    let xs = kept_shares root tracks w k (s ∷ []) in
    let made = with_shares t xs in
    let count : length made.parts ≡ k + length xs = length-append t.parts (parts_from (length t.pieces) xs) ∙ ap (λ n. k + n) (length-parts_from (length t.pieces) xs) in
    ap (λ u. with_shares u (kept_shares root tracks w (length u.parts) ss)) now_is
    ∙ ap (λ n. with_shares made (kept_shares root tracks w n ss)) count
    ∙ sym (with_shares-append t xs (kept_shares root tracks w (k + length xs) ss))
    ∙ ap (λ ys. with_shares t ys) (sym (kept_shares-cons root tracks w k s ss))
    ∙ so_far

-- how many pieces and parts there are with one clip more
pub counts_next : (root : List ℕ) (tracks : List TrackName) (w : Window) (t now : Timeline) (p : Placed) → now ≡ with_shares t (kept_shares root tracks w (length t.parts) (spans true (p ∷ [])))
    → (length now.pieces ≤ length t.pieces + file_count p.clip) × (length now.parts ≤ length t.parts + 1)
counts_next root tracks w t now p now_is =
    let s : Span = record { start = p.start; length = p.length; clips = p ∷ [] } in
    let xs = kept_shares root tracks w (length t.parts) (s ∷ []) in
    let counted = shares_count w root tracks (length t.parts) (s ∷ []) in
    let pieces = ap (λ u. length u.pieces) now_is ∙ length-append t.pieces (flat_map (λ x. x.1) xs) in
    let parts = ap (λ u. length u.parts) now_is ∙ length-append t.parts (parts_from (length t.pieces) xs) in (
      omega (arith, pieces, counted.1, sum_by-cons span_files s [], sum_by-cons (λ q. file_count q.clip) p []),
      omega (arith, parts, length-parts_from (length t.pieces) xs, counted.0),
    )

-- ---- pieces

pub pushed_count : (root : List ℕ) (tracks : List TrackName) (w : Window) (k : ℕ) (p : Placed) (old now : List Piece) → now ≡ old ++ trimmed w (placed_pieces root tracks k p) → length now ≤ length old + file_count p.clip
pushed_count root tracks w k p old now now_is =
    let e = ap length now_is ∙ length-append old (trimmed w (placed_pieces root tracks k p)) in
    omega (arith, e, length-trimmed w (placed_pieces root tracks k p), length-clip_pieces root tracks k p.start p.length p.clip)

pub pieces_count : (root : List ℕ) (tracks : List TrackName) (w : Window) (k : ℕ) (ps : List Placed) → length (trimmed w (flat_map (placed_pieces root tracks k) ps)) ≤ sum_by (λ p. file_count p.clip) ps
pieces_count root tracks w k ps = omega (arith, length-trimmed w (flat_map (placed_pieces root tracks k) ps), length-placed_pieces root tracks k ps)
