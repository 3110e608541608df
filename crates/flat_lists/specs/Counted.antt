-- The samples of a sequence that is few enough cells; this project's own.
use Rattle.std.specs.Prelude.{◌≡◌, ◌≤◌, ◌<◌, Bool, List, length, map, sum, Option, Result, Ok, Err}
use Rattle.vod_types.specs.declared.refusal.Refusal.{Refusal}
use Rattle.vod_types.specs.declared.refusal.Refusal.TheVariants.{TooManyIframes}
use Rattle.vod_types.specs.declared.segments.IframeRow.{IframeRow}
use Rattle.vod_types.specs.declared.tracks.Asked.{Asked}
use Rattle.clip_model.specs.Timeline.{Timeline}
use Rattle.segment_model.specs.Grid.{SegmentGrid, cell_counts}
use Rattle.segment_model.specs.Iframes.{listed_iframes}
use Rattle.segment_model.specs.Listing.{ListedSegment}
use Rattle.vod_source.specs.Calls.{Came}
use Rattle.vod_source.specs.Stored.{Files, Read}
use Rattle.origin_model.specs.Loaded.{CheckedPiece}
use Rattle.origin_model.specs.Plans.{all_pieces, counts, planned_rows}
use Rattle.origin_model.specs.Sources.{source_piece}
use Rattle.flat_lists.specs.declared.iframes.Counted.{Counted}
use Rattle.flat_lists.specs.ListedParts.{part_over}
use Rattle.flat_lists.specs.Listings.{rows_turns}
use Rattle.flat_segments.specs.Needed.{AreLooks, AreNeeded}
use Rattle.flat_segments.specs.Planned.{cutting_of}

-- the numbers of the cells of all parts, and the samples of all pieces
pub record IsCounted (known : Files) (g : SegmentGrid) (align edits : Bool) (asked : Asked) (t : Timeline) (c : Counted) (log log_now : Option (List Read)) : Type 0 where
  pub all : all_pieces (cutting_of known g align edits) asked t ≡ Ok t.pieces
  pub counts_are : c.counts.items ≡ counts (cutting_of known g align edits) asked t
  pub few : sum (counts (cutting_of known g align edits) asked t) ≤ 100000
  pub looks : AreLooks known edits asked t.pieces (Ok c.needed) log log_now

-- what was counted, and else the refusal of the listed segments
abbrev pub CountedAt : Files → SegmentGrid → Bool → Bool → Asked → Timeline → Result Counted Refusal → Option (List Read) → Option (List Read) → Type 0
CountedAt known g align edits asked t (Ok c) log log_now = IsCounted known g align edits asked t c log log_now
CountedAt known g align edits asked t (Err e) log log_now =
    Came (λ (rows : List ListedSegment). rows) (Err e) (planned_rows (cutting_of known g align edits) asked t) (rows_turns (cutting_of known g align edits) asked t) log log_now

-- what holds of the listed I-frames of a sequence with these numbers of cells and these samples
abbrev pub OfIframes : SegmentGrid → Bool → Timeline → Counted → (List IframeRow → Type 0) → Type 0
OfIframes g align t c P =
    (all : List CheckedPiece) → map (λ c. c.piece) all ≡ t.pieces → AreNeeded all c.needed → c.counts.items ≡ cell_counts g align (map (part_over (map source_piece all)) t.parts)
    → P (listed_iframes g align (map (part_over (map source_piece all)) t.parts))

-- they are at most 100,000
abbrev pub AreFew : List IframeRow → List IframeRow → Type 0
AreFew rows due = (rows ≡ due) × (length due ≤ 100000)

-- they are more
abbrev pub AreMore : Refusal → List IframeRow → Type 0
AreMore e due = (100000 < length due) × (e ≡ TooManyIframes (length due))
