-- The bytes of a file that stand in a room; this project's own.
use Rattle.std.specs.Prelude.{ℕ, ◌+◌, ◌-◌, ◌≤◌}

-- where they stand in the file, and how many they are
pub record Stretch : Type 0 where
  pub at : ℕ
  pub filled : ℕ

-- so many bytes from a place on are among them
pub record Has (s : Stretch) (at n : ℕ) : Type 0 where
  pub behind : s.at ≤ at
  pub within : at - s.at + n ≤ s.filled
