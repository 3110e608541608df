-- The cells of a part; this project's own.
use Rattle.std.specs.Prelude.{Bool, false, ℤ, int_le, Option, Some, None}
use Rattle.segment_model.specs.Grid.{PartGrid}
use Rattle.flat_segments.specs.declared.cells.PartCells.{PartCells}

abbrev pub part_grid_of : PartCells → PartGrid
part_grid_of c = record { grid = c.grid.now; align = c.align; start = c.start; cells = c.cells }

-- a time isn't before a bound; an absent bound is behind every time
abbrev pub is_past : Option ℤ → ℤ → Bool
is_past None time = false
is_past (Some bound) time = int_le bound time
