-- The pieces of clips in their places, cut by a window, follow one another.
use Rattle.std.proofs.Common.{◌≡◌, ℕ, suc, ◌+◌, ◌-◌, ◌≤◌, List, [], ◌∷◌, ◌++◌, length, length-append, map, true, cond, Option, Some, None, refl, ap, ◌∙◌, sym, arith, lit≤, ℤ, pos, ◌+ℤ◌, ◌-ℤ◌, ◌≤ℤ◌, ◌<ℤ◌}
use Rattle.std.specs.Prelude.{max, unwrap_or, flat_map, sum_by}
use Rattle.std.specs.Int.{int_min, int_max, IsInRange}
use Rattle.std.specs.List.{AllByRecursion}
use Rattle.std.proofs.lemmas.Int.{ints, clamps}
use Rattle.std.proofs.lemmas.List.{length-map}
use Rattle.std.proofs.lemmas.List.Sums.{sum_by-cons}
use Rattle.vod_types.specs.declared.tracks.TrackName.{TrackName}
use Rattle.vod_types.specs.declared.paths.Window.{Window}
use Rattle.clip_model.specs.declared.Piece.{Piece}
use Rattle.clip_model.specs.Mapping.{SourceClip, ConcatFile, Clip, source, concat, IsClip, file_count}
use Rattle.clip_model.specs.Trim.{units, lesser_end, windowed, is_left, is_above, trimmed}
use Rattle.clip_model.specs.Timeline.{Placed, placed_pieces, source_piece, files_from, file_piece, clip_pieces}
use Rattle.clip_model.proofs.TrimLemmas.{end_of}
use Rattle.vod_types.proofs.StepLemmas.{by_bool}
use Rattle.clip_model.proofs.Chains.{highest, Chain, chain_from, chain-append}

pub trimmed-append : (w : Window) (ps qs : List Piece) → trimmed w (ps ++ qs) ≡ trimmed w ps ++ trimmed w qs
trimmed-append w [] qs = refl
trimmed-append w (p ∷ ps) qs =
    by_bool (is_left (windowed w p)) (windowed w p ∷ trimmed w (ps ++ qs)) (trimmed w (ps ++ qs)) (λ r. r ≡ cond (is_left (windowed w p)) (windowed w p ∷ trimmed w ps) (trimmed w ps) ++ trimmed w qs)
    (λ e. rw e (ap (λ r. windowed w p ∷ r) (trimmed-append w ps qs)))
    (λ e. rw e (trimmed-append w ps qs))

-- what a kept piece keeps of its end
pub kept_end : (lo b hi : ℤ) (o : Option ℤ) (to : Option ℕ) → o ≡ Some hi → is_above lo (lesser_end o (end_of b to)) ≡ true → (h : ℤ) × (lesser_end o (end_of b to) ≡ Some h) × (lo <ℤ h) × (h ≤ℤ hi)
kept_end lo b hi None to e t = absurd (cc)
kept_end lo b hi (Some x) None e t = let same : x ≡ hi = cc in (x, refl, grind (arith, ints), omega (arith, ints, same))
kept_end lo b hi (Some x) (Some u) e t = let same : x ≡ hi = cc in (int_min x (units (pos u) -ℤ b), refl, grind (arith, ints), omega (arith, ints, clamps, same))

-- a time of the sequence in the times of a window
abbrev pub shown : Window → ℕ → ℕ
shown w t = max t w.from - w.from

-- the same of a time in units
abbrev pub shown_units : Window → ℤ → ℤ
shown_units w z = int_max z (units (pos w.from)) -ℤ units (pos w.from)

pub shown_units_is : (w : Window) (t : ℕ) → shown_units w (units (pos t)) ≡ units (pos (shown w t))
shown_units_is w t = omega (arith, ints, clamps)

-- a piece between two times of the sequence, in front of a chain
pub trimmed-cons : (w : Window) (p : Piece) (ps : List Piece) (hi at mid end : ℤ) → p.hi ≡ Some hi → pos 0 ≤ℤ p.lo → hi ≤ℤ pos highest → at ≤ℤ (p.base +ℤ p.lo) → (p.base +ℤ hi) ≤ℤ mid → (p.base +ℤ hi) ≤ℤ end → at ≤ℤ mid
    → Chain (shown_units w mid) (trimmed w ps) (shown_units w end) → Chain (shown_units w at) (trimmed w (p ∷ ps)) (shown_units w end)
trimmed-cons w p ps hi at mid end is low room begins before ends order rest =
    by_bool (is_left (windowed w p)) (windowed w p ∷ trimmed w ps) (trimmed w ps) (λ qs. Chain (shown_units w at) qs (shown_units w end))
    (λ e. let k = kept_end (windowed w p).lo p.base hi p.hi w.to is e in (
      k.0,
      (
        record {
          is = k.1;
          low = omega (arith, ints, clamps, low);
          above = k.2;
          room = omega (arith, ints, k.3, room);
          begins = omega (arith, ints, clamps, begins);
          ends = omega (arith, ints, clamps, k.3, ends);
        },
        chain_from ((p.base -ℤ units (pos w.from)) +ℤ k.0) (shown_units w mid) (shown_units w end) (trimmed w ps) (omega (arith, ints, clamps, k.3, before)) rest,
      ),
    ))
    (λ e. chain_from (shown_units w at) (shown_units w mid) (shown_units w end) (trimmed w ps) (omega (arith, ints, clamps, order)) rest)

-- ---- clips

-- no length of a clip or of a sequence is above this
abbrev pub longest : ℕ
longest = 12000000000

pub source_chain : (w : Window) (root : List ℕ) (tracks : List TrackName) (part start n : ℕ) (c : SourceClip) → c.clip_from ≤ 864000000 → n ≤ longest
    → Chain (shown_units w (units (pos start))) (trimmed w (source_piece root tracks part start (Some n) c ∷ [])) (shown_units w (units (pos (start + n))))
source_chain w root tracks part start n c within short =
    trimmed-cons w (source_piece root tracks part start (Some n) c) [] (units (pos c.clip_from) +ℤ units (pos n)) (units (pos start)) (units (pos (start + n))) (units (pos (start + n))) refl
    (omega (arith, ints)) (omega (arith, ints, within, short)) (omega (arith, ints)) (omega (arith, ints)) (omega (arith, ints)) (omega (arith, ints)) tt

pub files_chain : (w : Window) (root : List ℕ) (tracks : List TrackName) (part start n : ℕ) (at : ℤ) (fs : List ConcatFile) → AllByRecursion (λ f. IsInRange 1 86400000 f.duration) fs
    → Chain (shown_units w (int_max (units (pos start)) (units at))) (trimmed w (map (λ f. file_piece root tracks part start (Some n) f.0 f.1) (files_from at fs))) (shown_units w (units (pos (start + n))))
files_chain w root tracks part start n at [] h = tt
files_chain w root tracks part start n at (f ∷ fs) h =
    let end = units (pos (start + n)) in
    let room : pos f.duration ≤ℤ pos 86400000 = omega (arith, ints, h.0.1) in
    trimmed-cons w (file_piece root tracks part start (Some n) f at) (map (λ g. file_piece root tracks part start (Some n) g.0 g.1) (files_from (at +ℤ pos f.duration) fs))
    (int_min (units (pos f.duration)) (end -ℤ units at)) (int_max (units (pos start)) (units at)) (int_max (units (pos start)) (units (at +ℤ pos f.duration))) end refl
    (omega (arith, ints, clamps)) (omega (arith, ints, clamps, room)) (omega (arith, ints, clamps)) (omega (arith, ints, clamps)) (omega (arith, ints, clamps)) (omega (arith, ints, clamps))
    (files_chain w root tracks part start n (at +ℤ pos f.duration) fs h.1)

pub clip_chain : (w : Window) (root : List ℕ) (tracks : List TrackName) (part start n : ℕ) (c : Clip) → IsClip c → n ≤ longest
    → Chain (shown_units w (units (pos start))) (trimmed w (clip_pieces root tracks part start (Some n) c)) (shown_units w (units (pos (start + n))))
clip_chain w root tracks part start n (source c) h short = source_chain w root tracks part start n c h short
clip_chain w root tracks part start n (concat c) h short =
    let ts = unwrap_or c.tracks tracks in
    let at = pos start +ℤ c.offset in
    chain_from (shown_units w (units (pos start))) (shown_units w (int_max (units (pos start)) (units at))) (shown_units w (units (pos (start + n))))
    (trimmed w (map (λ f. file_piece root ts part start (Some n) f.0 f.1) (files_from at c.files))) (omega (arith, ints, clamps))
    (files_chain w root ts part start n at c.files h.durations)

-- clips one after another from a time up to another, each with a length
abbrev pub Row : ℕ → List Placed → ℕ → Type 0
Row at [] end = at ≡ end
Row at (p ∷ ps) end = (n : ℕ) × ((p.start ≡ at) × (p.length ≡ Some n) × (n ≤ longest) × IsClip p.clip × Row (at + n) ps end)

pub row_order : (at end : ℕ) (ps : List Placed) → Row at ps end → at ≤ end
row_order at end [] r = omega (arith, r)
row_order at end (p ∷ ps) r = omega (arith, row_order (at + r.0) end ps r.1.4)

pub row_chain : (w : Window) (root : List ℕ) (tracks : List TrackName) (part at end : ℕ) (ps : List Placed) → Row at ps end
    → Chain (shown_units w (units (pos at))) (trimmed w (flat_map (placed_pieces root tracks part) ps)) (shown_units w (units (pos end)))
row_chain w root tracks part at end [] r = tt
row_chain w root tracks part at end (p ∷ ps) r =
    let order = row_order (at + r.0) end ps r.1.4 in
    rw (trimmed-append w (placed_pieces root tracks part p) (flat_map (placed_pieces root tracks part) ps))
    (chain-append (shown_units w (units (pos at))) (shown_units w (units (pos (at + r.0)))) (shown_units w (units (pos end)))
    (trimmed w (placed_pieces root tracks part p)) (trimmed w (flat_map (placed_pieces root tracks part) ps)) (omega (arith, ints, clamps)) (omega (arith, ints, clamps, order))
    (rw (r.1.0, r.1.1) (clip_chain w root tracks part at r.0 p.clip r.1.3 r.1.2))
    (row_chain w root tracks part (at + r.0) end ps r.1.4))

-- ---- the part and the number of the pieces

pub part_trimmed : (w : Window) (part : ℕ) (ps : List Piece) → AllByRecursion (λ p. p.part ≡ part) ps → AllByRecursion (λ p. p.part ≡ part) (trimmed w ps)
part_trimmed w part [] h = tt
part_trimmed w part (p ∷ ps) h =
    by_bool (is_left (windowed w p)) (windowed w p ∷ trimmed w ps) (trimmed w ps) (λ qs. AllByRecursion (λ q. q.part ≡ part) qs)
    (λ e. (h.0, part_trimmed w part ps h.1)) (λ e. part_trimmed w part ps h.1)

pub each-append : {X : Type 0} (P : X → Type 0) (xs ys : List X) → AllByRecursion P xs → AllByRecursion P ys → AllByRecursion P (xs ++ ys)
each-append P [] ys h g = g
each-append P (x ∷ xs) ys h g = (h.0, each-append P xs ys h.1 g)

pub part_files : (root : List ℕ) (tracks : List TrackName) (part start : ℕ) (n : Option ℕ) (fs : List (ConcatFile × ℤ)) → AllByRecursion (λ p. p.part ≡ part) (map (λ f. file_piece root tracks part start n f.0 f.1) fs)
part_files root tracks part start n [] = tt
part_files root tracks part start n (f ∷ fs) = (refl, part_files root tracks part start n fs)

pub part_clip : (root : List ℕ) (tracks : List TrackName) (part start : ℕ) (n : Option ℕ) (c : Clip) → AllByRecursion (λ p. p.part ≡ part) (clip_pieces root tracks part start n c)
part_clip root tracks part start n (source c) = (refl, tt)
part_clip root tracks part start n (concat c) = part_files root (unwrap_or c.tracks tracks) part start n (files_from (pos start +ℤ c.offset) c.files)

pub part_placed : (root : List ℕ) (tracks : List TrackName) (part : ℕ) (ps : List Placed) → AllByRecursion (λ p. p.part ≡ part) (flat_map (placed_pieces root tracks part) ps)
part_placed root tracks part [] = tt
part_placed root tracks part (p ∷ ps) = each-append (λ q. q.part ≡ part) (placed_pieces root tracks part p) (flat_map (placed_pieces root tracks part) ps) (part_clip root tracks part p.start p.length p.clip) (part_placed root tracks part ps)

pub length-trimmed : (w : Window) (ps : List Piece) → length (trimmed w ps) ≤ length ps
length-trimmed w [] = lit≤ tt
length-trimmed w (p ∷ ps) =
    by_bool (is_left (windowed w p)) (windowed w p ∷ trimmed w ps) (trimmed w ps) (λ qs. length qs ≤ length (p ∷ ps))
    (λ e. omega (arith, length-trimmed w ps)) (λ e. omega (arith, length-trimmed w ps))

pub length-files_from : (at : ℤ) (fs : List ConcatFile) → length (files_from at fs) ≡ length fs
length-files_from at [] = refl
length-files_from at (f ∷ fs) = ap suc (length-files_from (at +ℤ pos f.duration) fs)

pub length-clip_pieces : (root : List ℕ) (tracks : List TrackName) (part start : ℕ) (n : Option ℕ) (c : Clip) → length (clip_pieces root tracks part start n c) ≡ file_count c
length-clip_pieces root tracks part start n (source c) = refl
length-clip_pieces root tracks part start n (concat c) =
    let at = pos start +ℤ c.offset in
    length-map (files_from at c.files) (λ f. file_piece root (unwrap_or c.tracks tracks) part start n f.0 f.1) ∙ length-files_from at c.files

pub length-placed_pieces : (root : List ℕ) (tracks : List TrackName) (part : ℕ) (ps : List Placed) → length (flat_map (placed_pieces root tracks part) ps) ≡ sum_by (λ p. file_count p.clip) ps
length-placed_pieces root tracks part [] = refl
length-placed_pieces root tracks part (p ∷ ps) =
    length-append (placed_pieces root tracks part p) (flat_map (placed_pieces root tracks part) ps)
    ∙ ap (λ n. n + length (flat_map (placed_pieces root tracks part) ps)) (length-clip_pieces root tracks part p.start p.length p.clip)
    ∙ ap (λ n. file_count p.clip + n) (length-placed_pieces root tracks part ps)
    ∙ sym (sum_by-cons (λ q. file_count q.clip) p ps)
