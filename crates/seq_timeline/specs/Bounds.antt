-- How far the times of clips and of pieces reach.
use Rattle.std.specs.Prelude.{ℕ, ◌*◌, ◌^◌, ◌≤◌, List, length, sum_by, IfSome, ℤ, pos, ◌+ℤ◌, ◌≤ℤ◌}
use Rattle.std.specs.List.{AllByRecursion}
use Rattle.clip_model.specs.declared.Piece.{Piece}
use Rattle.clip_model.specs.Mapping.{IsClip, file_count}
use Rattle.clip_model.specs.Timeline.{Placed}

-- about 139 days in milliseconds
abbrev pub longest : ℕ
longest = 12000000000

-- a clip that begins and lasts no longer than a sequence can
pub record IsPlaced (p : Placed) : Type 0 where
  pub start : p.start ≤ longest
  pub length : IfSome p.length (λ n. n ≤ longest)
  pub clip : IsClip p.clip

-- the clips of a sequence
pub record ArePlaced (ps : List Placed) : Type 0 where
  pub count : length ps ≤ 128
  pub files : sum_by (λ p. file_count p.clip) ps ≤ 1024
  pub each : AllByRecursion IsPlaced ps

-- when a file of a concat clip can begin, in milliseconds
pub record IsFileStart (at : ℤ) : Type 0 where
  pub low : pos 0 ≤ℤ (at +ℤ pos longest)
  pub high : at ≤ℤ pos (3 * longest)

-- a time in milliseconds whose units stay far from the ends of 64 bits
pub record IsMillis (ms : ℤ) : Type 0 where
  pub low : pos 0 ≤ℤ (ms +ℤ pos (2 ^ 44))
  pub high : ms ≤ℤ pos (2 ^ 44)

-- the same of a time in units
pub record IsUnits (units : ℤ) : Type 0 where
  pub low : pos 0 ≤ℤ (units +ℤ pos (2 ^ 52))
  pub high : units ≤ℤ pos (2 ^ 52)

pub record AreUnits (p : Piece) : Type 0 where
  pub base : IsUnits p.base
  pub lo : IsUnits p.lo
  pub hi : IfSome p.hi IsUnits
