-- The I-frames of a sequence, or their first refusal; this project's own.
use Rattle.std.specs.Prelude.{◌≡◌, ℕ, ◌+◌, ◌*◌, ◌<◌, ◌≤◌, Bool, List, length, map, Option, Result}
use Rattle.vod_types.specs.declared.refusal.Refusal.{Refusal}
use Rattle.vod_types.specs.declared.refusal.Refusal.TheVariants.{TooManyIframes}
use Rattle.vod_types.specs.declared.segments.IframeRow.{IframeRow}
use Rattle.vod_types.specs.Tracks.{video_alone}
use Rattle.clip_model.specs.declared.Part.{Part}
use Rattle.clip_model.specs.Timeline.{Timeline}
use Rattle.segment_model.specs.Grid.{SegmentGrid}
use Rattle.segment_model.specs.Iframes.{listed_iframes}
use Rattle.vod_source.specs.Calls.{AnswersUnlessFailed}
use Rattle.vod_source.specs.Stored.{Read}
use Rattle.origin_model.specs.Iframes.{planned_iframes}
use Rattle.origin_model.specs.Loaded.{CheckedPiece}
use Rattle.origin_model.specs.Plans.{Cutting, rows_looks}
use Rattle.origin_model.specs.Reads.{Cache}
use Rattle.origin_model.specs.Sources.{source_parts, source_piece}
use Rattle.vod_plan.specs.ListingParts.{part_over}
use Rattle.vod_plan.specs.Looks.{names_of, rows_bound}
use Rattle.vod_plan.specs.Turned.{AreTurns}

-- those of parts over these pieces
abbrev pub iframes_over : SegmentGrid → Bool → List CheckedPiece → List Part → List IframeRow
iframes_over grid align cs parts = listed_iframes grid align (map (part_over (map source_piece cs)) parts)

-- they are at most 100,000
abbrev pub AreFew : List IframeRow → List IframeRow → Type 0
AreFew rows due = (rows ≡ due) × (length due ≤ 100000)

-- they are more
abbrev pub AreMore : Refusal → List IframeRow → Type 0
AreMore e due = (100000 < length due) × (e ≡ TooManyIframes (length due))

-- The I-frames of a video track, or their first refusal, with the turns for it and so many looks.
pub record AreIframesBy {X : Type 0} (view : X → List IframeRow) (c : Cutting) (video : ℕ) (t : Timeline) (result : Result X Refusal) (held held_now : Cache) (log log_now : Option (List Read)) (steps steps_now : ℕ) : Type 0 where
  pub answered : AnswersUnlessFailed view result (planned_iframes c video t)
  pub turned : AreTurns c.files (names_of (rows_looks c (video_alone video) t)) result held held_now log log_now
  pub looks : steps_now ≤ steps + rows_bound c (video_alone video) t + 1024 * length (listed_iframes c.grid c.align (source_parts c.files c.edits (video_alone video) t))
