-- Trimming twice is trimming once.
use Rattle.std.proofs.Common.{◌≡◌, ℕ, ◌+◌, List, [], ◌∷◌, Bool, true, false, cond, Option, Some, None, refl, ap, ◌∙◌, sym, arith, ℤ, pos, ◌-ℤ◌}
use Rattle.std.proofs.lemmas.Int.{ints, clamps}
use Rattle.std.specs.Prelude.{option_map}
use Rattle.std.specs.Int.{int_max}
use Rattle.vod_types.specs.declared.paths.Window.{Window}
use Rattle.clip_model.specs.declared.Piece.{Piece}
use Rattle.clip_model.specs.Trim.{units, lesser_end, windowed, is_left, is_above, trimmed, lesser_to, within_window, TrimTwice}

pub base_twice : (b : ℤ) (c d : ℕ) → (b -ℤ units (pos c)) -ℤ units (pos d) ≡ b -ℤ units (pos (c + d))
base_twice b c d = omega (arith, ints)

pub lo_twice : (lo b : ℤ) (c d : ℕ) → int_max (int_max lo (units (pos c) -ℤ b)) (units (pos d) -ℤ (b -ℤ units (pos c))) ≡ int_max lo (units (pos (c + d)) -ℤ b)
lo_twice lo b c d = omega (arith, ints, clamps)

-- an end that a window sets
abbrev pub end_of : ℤ → Option ℕ → Option ℤ
end_of b to = option_map (λ t. units (pos t) -ℤ b) to

pub later_end : (b : ℤ) (c t : ℕ) → units (pos t) -ℤ (b -ℤ units (pos c)) ≡ units (pos (c + t)) -ℤ b
later_end b c t = omega (arith, ints)

pub end_twice : (b : ℤ) (c : ℕ) (first second : Option ℕ) → lesser_end (end_of b first) (end_of (b -ℤ units (pos c)) second) ≡ end_of b (lesser_to first (option_map (λ t. c + t) second))
end_twice b c None None = refl
end_twice b c None (Some t) = ap Some (later_end b c t)
end_twice b c (Some s) None = refl
end_twice b c (Some s) (Some t) = ap Some (omega (arith, ints, clamps))

pub lesser_end_assoc : (x y z : Option ℤ) → lesser_end (lesser_end x y) z ≡ lesser_end x (lesser_end y z)
lesser_end_assoc None y z = refl
lesser_end_assoc (Some a) None z = refl
lesser_end_assoc (Some a) (Some b) None = refl
lesser_end_assoc (Some a) (Some b) (Some c) = ap Some (omega (arith, ints, clamps))

pub hi_twice : (hi : Option ℤ) (b : ℤ) (c : ℕ) (first second : Option ℕ) → lesser_end (lesser_end hi (end_of b first)) (end_of (b -ℤ units (pos c)) second) ≡ lesser_end hi (end_of b (lesser_to first (option_map (λ t. c + t) second)))
hi_twice hi b c first second = lesser_end_assoc hi (end_of b first) (end_of (b -ℤ units (pos c)) second) ∙ ap (lesser_end hi) (end_twice b c first second)

pub windowed_twice : (p : Piece) (first second : Window) → windowed second (windowed first p) ≡ windowed (within_window first second) p
windowed_twice p first second i = record p {
  base = base_twice p.base first.from second.from i;
  lo = lo_twice p.lo p.base first.from second.from i;
  hi = hi_twice p.hi p.base first.from first.to second.to i;
}

pub above_less : (lo x : ℤ) (hi y : Option ℤ) → is_above lo hi ≡ false → is_above (int_max lo x) (lesser_end hi y) ≡ false
above_less lo x None y e = cc
above_less lo x (Some h) None e = grind (arith, ints)
above_less lo x (Some h) (Some y) e = grind (arith, ints)

-- what a window leaves nothing of has nothing in a window of it
pub left_less : (w : Window) (p : Piece) → is_left p ≡ false → is_left (windowed w p) ≡ false
left_less w p e = above_less p.lo (units (pos w.from) -ℤ p.base) p.hi (end_of p.base w.to) e

pub trim_twice_spec : TrimTwice
trim_twice_spec [] first second = refl
trim_twice_spec (p ∷ ps) first second =
    let rest : trimmed second (trimmed first ps) ≡ trimmed (within_window first second) ps = trim_twice_spec ps first second in
    trim_cons p ps first second (is_left (windowed first p)) refl rest
  where
    trim_cons : (p : Piece) (ps : List Piece) (first second : Window) (b : Bool) → is_left (windowed first p) ≡ b
        → trimmed second (trimmed first ps) ≡ trimmed (within_window first second) ps
        → trimmed second (trimmed first (p ∷ ps)) ≡ trimmed (within_window first second) (p ∷ ps)
    trim_cons p ps first second true e rest = rw e (ap (λ q. cond (is_left q) (q ∷ trimmed second (trimmed first ps)) (trimmed second (trimmed first ps))) (windowed_twice p first second) ∙ ap (λ qs. cond (is_left (windowed (within_window first second) p)) (windowed (within_window first second) p ∷ qs) qs) rest)
    trim_cons p ps first second false e rest = rw e (rest ∙ sym (ap (λ b. cond b (windowed (within_window first second) p ∷ trimmed (within_window first second) ps) (trimmed (within_window first second) ps)) (ap is_left (sym (windowed_twice p first second)) ∙ left_less second (windowed first p) e)))
