-- The cells of parts, and where numbers stand among them; this project's own.
use Rattle.std.specs.Prelude.{ℕ, Bool, false, List, map, sum, ok_or, unwrap_or, option_map, ℤ, ◌+ℤ◌, Option, Result}
use Rattle.std.specs.Option.{option_map_or}
use Rattle.vod_types.specs.declared.refusal.Refusal.{Refusal}
use Rattle.vod_types.specs.declared.refusal.Refusal.TheVariants as refusals
use Rattle.vod_types.specs.declared.tracks.Asked.{Asked}
use Rattle.vod_types.specs.Results.{◌>>◌}
use Rattle.clip_model.specs.declared.Part.{Part}
use Rattle.clip_model.specs.declared.Piece.{Piece}
use Rattle.segment_model.specs.Grid.{PartGrid, SegmentGrid, cells, locate}
use Rattle.segment_model.specs.Needed.{begins}
use Rattle.segment_model.specs.Timeline.{is_below}
use Rattle.vod_source.specs.Stored.{Files}
use Rattle.origin_model.specs.Plans.{few_cells}
use Rattle.origin_model.specs.Sources.{source_of}
use Rattle.seq_cells.specs.declared.cells.PartCells.{PartCells}

abbrev pub part_grid_of : PartCells → PartGrid
part_grid_of c = record { grid = c.grid.now; align = c.align; start = c.start; cells = c.cells }

-- where a number stands among so many cells of each part, or why it doesn't
abbrev pub place_among : List ℕ → ℕ → Result (ℕ × ℕ) Refusal
place_among counts number = few_cells (sum counts) >> ok_or (locate counts number) (refusals.NoSegment number (sum counts))

-- the numbers of cells of parts whose lengths are declared
abbrev pub declared_counts : SegmentGrid → List Part → List ℕ
declared_counts g parts = map (λ part. cells g (unwrap_or part.length_ms 0)) parts

-- a piece ends after a time; an absent end is above all
abbrev pub piece_ends_after : ℤ → Piece → Bool
piece_ends_after time p = is_below time (option_map (λ hi. p.base +ℤ hi) p.hi)

-- a piece with which the next cell may begin ends the looks
abbrev pub stops : Files → Bool → Asked → Option (PartCells × ℕ) → Piece → Bool
stops files edits asked next piece = option_map_or (λ n. begins (part_grid_of n.0) n.1 (source_of files edits asked piece)) next false
