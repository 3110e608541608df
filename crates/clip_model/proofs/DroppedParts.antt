-- A part that a window leaves nothing of has no piece.
use Rattle.std.proofs.Common.{◌≡◌, ℕ, ◌+◌, ◌-◌, ◌≤◌, ◌<◌, List, [], ◌∷◌, map, true, Option, Some, None, refl, arith, ℤ, pos, ◌+ℤ◌, ◌-ℤ◌, ◌≤ℤ◌, ◌<ℤ◌}
use Rattle.std.specs.Prelude.{flat_map, max, unwrap_or}
use Rattle.std.specs.Int.{int_min, int_max}
use Rattle.std.specs.List.{AllByRecursion}
use Rattle.std.proofs.lemmas.Int.{ints, clamps}
use Rattle.vod_types.specs.declared.tracks.TrackName.{TrackName}
use Rattle.vod_types.specs.declared.paths.Window.{Window}
use Rattle.clip_model.specs.declared.Piece.{Piece}
use Rattle.clip_model.specs.Mapping.{ConcatFile, Clip, source, concat}
use Rattle.clip_model.specs.Trim.{units, lesser_end, windowed, is_left, is_above, trimmed}
use Rattle.clip_model.specs.Timeline.{Placed, placed_pieces, file_piece, files_from, clip_pieces, end_within}
use Rattle.clip_model.proofs.TrimLemmas.{end_of}
use Rattle.vod_types.proofs.StepLemmas.{by_bool}
use Rattle.clip_model.proofs.ClipChains.{Row, row_order, each-append}

-- a piece between two times of the sequence, before a window
pub record Between (start end : ℕ) (p : Piece) : Type 0 where
  pub hi : ℤ
  pub is : p.hi ≡ Some hi
  pub begins : units (pos start) ≤ℤ (p.base +ℤ p.lo)
  pub ends : (p.base +ℤ hi) ≤ℤ units (pos end)

pub left_between : (lo b hi : ℤ) (o : Option ℤ) (to : Option ℕ) (opening start end : ℕ) → o ≡ Some hi → units (pos start) ≤ℤ (b +ℤ lo) → (b +ℤ hi) ≤ℤ units (pos end)
    → is_above (int_max lo (units (pos opening) -ℤ b)) (lesser_end o (end_of b to)) ≡ true → max start opening < end_within to end
left_between lo b hi None to opening start end e begins ends t = absurd (cc)
left_between lo b hi (Some x) None opening start end e begins ends t =
    let same : x ≡ hi = cc in
    let above : int_max lo (units (pos opening) -ℤ b) <ℤ x = grind (arith, ints) in
    omega (arith, ints, clamps, same, above, begins, ends)
left_between lo b hi (Some x) (Some u) opening start end e begins ends t =
    let same : x ≡ hi = cc in
    let above : int_max lo (units (pos opening) -ℤ b) <ℤ int_min x (units (pos u) -ℤ b) = grind (arith, ints) in
    omega (arith, ints, clamps, same, above, begins, ends)

pub none_left : (w : Window) (start end : ℕ) (ps : List Piece) → AllByRecursion (Between start end) ps → end_within w.to end - max start w.from ≡ 0 → trimmed w ps ≡ []
none_left w start end [] h empty = refl
none_left w start end (p ∷ ps) h empty =
    by_bool (is_left (windowed w p)) (windowed w p ∷ trimmed w ps) (trimmed w ps) (λ qs. qs ≡ [])
    (λ e. let k = h.0 in absurd (omega (arith, empty, left_between p.lo p.base k.hi p.hi w.to w.from start end k.is k.begins k.ends e)))
    (λ e. none_left w start end ps h.1 empty)

pub files_between : (root : List ℕ) (tracks : List TrackName) (part start n : ℕ) (fs : List (ConcatFile × ℤ)) → AllByRecursion (Between start (start + n)) (map (λ f. file_piece root tracks part start (Some n) f.0 f.1) fs)
files_between root tracks part start n [] = tt
files_between root tracks part start n (f ∷ fs) = (
  record {
    hi = int_min (units (pos f.0.duration)) (units (pos (start + n)) -ℤ units f.1);
    is = refl;
    begins = omega (arith, ints, clamps);
    ends = omega (arith, ints, clamps);
  },
  files_between root tracks part start n fs,
)

pub clip_between : (root : List ℕ) (tracks : List TrackName) (part start n : ℕ) (c : Clip) → AllByRecursion (Between start (start + n)) (clip_pieces root tracks part start (Some n) c)
clip_between root tracks part start n (source c) =
    (record { hi = units (pos c.clip_from) +ℤ units (pos n); is = refl; begins = omega (arith, ints); ends = omega (arith, ints) }, tt)
clip_between root tracks part start n (concat c) = files_between root (unwrap_or c.tracks tracks) part start n (files_from (pos start +ℤ c.offset) c.files)

pub between_wider : (a b c d : ℕ) (ps : List Piece) → a ≤ b → c ≤ d → AllByRecursion (Between b c) ps → AllByRecursion (Between a d) ps
between_wider a b c d [] h g k = tt
between_wider a b c d (p ∷ ps) h g k =
    let x = k.0 in
    (record { hi = x.hi; is = x.is; begins = omega (arith, ints, h, x.begins); ends = omega (arith, ints, g, x.ends) }, between_wider a b c d ps h g k.1)

pub row_between : (root : List ℕ) (tracks : List TrackName) (part at end : ℕ) (ps : List Placed) → Row at ps end → AllByRecursion (Between at end) (flat_map (placed_pieces root tracks part) ps)
row_between root tracks part at end [] r = tt
row_between root tracks part at end (p ∷ ps) r =
    let order = row_order (at + r.0) end ps r.1.4 in
    let later = flat_map (placed_pieces root tracks part) ps in
    each-append (Between at end) (placed_pieces root tracks part p) later
    (rw (r.1.0, r.1.1) (between_wider at at (at + r.0) end (clip_pieces root tracks part at (Some r.0) p.clip) (omega arith) order (clip_between root tracks part at r.0 p.clip)))
    (between_wider at (at + r.0) end end later (omega arith) (omega arith) (row_between root tracks part (at + r.0) end ps r.1.4))

-- dropping such a part drops no piece
pub dropped_part : (w : Window) (root : List ℕ) (tracks : List TrackName) (part at end : ℕ) (ps : List Placed) → Row at ps end → end_within w.to end - max at w.from ≡ 0 → trimmed w (flat_map (placed_pieces root tracks part) ps) ≡ []
dropped_part w root tracks part at end ps r empty = none_left w at end (flat_map (placed_pieces root tracks part) ps) (row_between root tracks part at end ps r) empty
