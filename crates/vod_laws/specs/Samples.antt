-- Every selected sample is in one segment, for all that a path can ask for.
use Rattle.std.specs.Prelude.{◌≡◌, ℕ, ◌<◌, Bool, List, All, Some, Ok}
use Rattle.vod_types.specs.declared.paths.Ask.{Ask}
use Rattle.vod_types.specs.declared.tracks.Asked.{Asked}
use Rattle.clip_model.specs.Timeline.{Timeline}
use Rattle.segment_model.specs.Grid.{SegmentGrid, part_grid}
use Rattle.segment_model.specs.Laws.{IsSourcePart, IsPartition, IsOneCut}
use Rattle.segment_model.specs.Timeline.{SourcePart, timeline}
use Rattle.list_model.specs.Path.{ask_of}
use Rattle.origin_model.specs.Requests.{Setup, Asking, honours_edits, asking_of, timeline_asked}
use Rattle.origin_model.specs.Sources.{source_parts}

-- It holds of each part of each sequence that a path asks for, with the asked tracks of its files, whatever the settings, the
-- files and the asked tracks are.
abbrev pub OfAskedParts : (SourcePart → Type 0) → Type 0
OfAskedParts P =
    (o : Setup) (path : List ℕ) (ask : Ask) → ask_of path ≡ Some ask →
    (a : Asking) → asking_of o ask ≡ Ok a →
    (sequence : ℕ) (t : Timeline) → timeline_asked o a sequence ≡ Ok t →
    (asked : Asked) → All P (source_parts o.files (honours_edits o) asked t)

-- Their decode times don't fall, and their pieces stand in order from the part's start on: what the laws on one part ask of it.
abbrev pub AskedPartsAreSourceParts : Type 0
AskedPartsAreSourceParts = OfAskedParts IsSourcePart

-- A part that has a cell is cut into groups that join to its rows, and each cell that is found by itself is its group.
pub record IsCutOnce (grid : SegmentGrid) (align : Bool) (part : SourcePart) : Type 0 where
  pub partition : 0 < (part_grid grid align part).cells → IsPartition (part_grid grid align part) (timeline part.pieces)
  pub lone : (k : ℕ) → k < (part_grid grid align part).cells → IsOneCut (part_grid grid align part) (timeline part.pieces) k

-- by every grid
abbrev pub EverySampleOnce : Type 0
EverySampleOnce = OfAskedParts (λ part. (grid : SegmentGrid) (align : Bool) → IsCutOnce grid align part)
