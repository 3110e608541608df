-- What a grid keeps (this project's own).
use Rattle.std.specs.Prelude.{◌≤◌, length}
use Rattle.std.specs.Int.{IsInRange}
use Rattle.std.specs.List.{AllByRecursion}
use Rattle.segment_model.specs.Grid.{SegmentGrid}

-- the ranges of its durations
pub record HasRanges (g : SegmentGrid) : Type 0 where
  pub count : length g.bootstrap ≤ 16
  pub bootstrap : AllByRecursion (IsInRange 1 600000) g.bootstrap
  pub step : IsInRange 1 600000 g.step
