-- Lemmas on what is left of a list from a place on.
use Rattle.std.proofs.Common.{◌≡◌, ℕ, ◌-◌, List, length, take, drop, arith, length-drop, take_all}

-- what is left from a place on, as a range to the end gives it
pub rest_from : (xs : List ℕ) (at : ℕ) → take (length xs - at) (drop at xs) ≡ drop at xs
rest_from xs at = take_all (length xs - at) (drop at xs) (omega (arith, length-drop at xs))
