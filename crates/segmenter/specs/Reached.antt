-- The last cell that begins within a length (this project's own).
use Rattle.std.specs.Prelude.{◌≡◌, ℕ, suc, ◌+◌, ◌<◌, ◌≤◌}
use Rattle.segment_model.specs.Grid.{SegmentGrid, boundary}

-- the cell begins at or before the length, which ends so much behind the cell's boundary and within its duration
pub record IsReached (g : SegmentGrid) (length cell rest duration : ℕ) : Type 0 where
  pub begins : boundary g cell + rest ≡ length
  pub lasts : boundary g (suc cell) ≡ boundary g cell + duration
  pub within : rest < duration
  pub small : cell + rest ≤ length
  pub short : duration ≤ 600000
