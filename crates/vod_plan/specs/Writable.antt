-- A plan that the writer of its form takes; this project's own.
use Rattle.std.specs.Prelude.{◌≡◌, ℕ, ◌+◌, ◌≤◌, ◌++◌, List, drop, length, Option, All}
use Rattle.std.specs.List.{AllByRecursion}
use Rattle.std.specs.Rc.{rc_value}
use Rattle.vod_types.specs.declared.segments.Form.{Form}
use Rattle.vod_types.specs.declared.segments.Form.TheVariants.{Ts, Fmp4}
use Rattle.vod_types.specs.declared.tracks.Asked.{Asked}
use Rattle.clip_model.specs.declared.Part.{Part}
use Rattle.clip_model.specs.IsTimeline.{IsTimeline}
use Rattle.clip_model.specs.Timeline.{Timeline}
use Rattle.media_model.specs.Fragment.{sizes}
use Rattle.vod_source.specs.Stored.{Files, bytes_of}
use Rattle.origin_model.specs.Sources.{part_pieces}
use Rattle.fmp4_writer.specs.Progress as fragments
use Rattle.ts_writer.specs.Conditions as streams
use Rattle.ts_writer.specs.Progress.{segment_begun}
use Rattle.vod_plan.specs.declared.spans.PlanPiece.{PlanPiece}
use Rattle.vod_plan.specs.Needed.{AreFoundPieces}
use Rattle.vod_plan.specs.Planned.{Planned, plan_rows}
use Rattle.vod_plan.specs.RowFaults.{largest_of, EndsLow}

-- the rows of a plan are those that the writer of a form takes
abbrev pub IsWritableBy : Form → Asked → Option Files → Planned → Type 0
IsWritableBy Ts asked content p = streams.AreWritable content (plan_rows p) (segment_begun p.largest asked p.hevc)
IsWritableBy Fmp4 asked content p = fragments.AreWritable content (plan_rows p)

-- A plan tells the greatest size of its samples and the sum of their sizes, which is low, and each of them ends below 2^64.
pub record IsCounted (p : Planned) : Type 0 where
  pub largest : p.largest ≡ largest_of ((plan_rows p).video ++ (plan_rows p).audio)
  pub bytes : p.bytes ≡ sizes (plan_rows p).video + sizes (plan_rows p).audio
  pub small : p.bytes ≤ 2130706432
  pub video_ends : All EndsLow (plan_rows p).video
  pub audio_ends : All EndsLow (plan_rows p).audio

-- each is of a file that is as long as its metadata say
abbrev pub SizesAreTrue : Files → List PlanPiece → Type 0
SizesAreTrue files pieces = AllByRecursion (λ (p : PlanPiece). length (bytes_of files (rc_value p.meta).name) ≡ (rc_value p.meta).movie.place.file_size) pieces

-- They are those of some of the pieces of a part of a timeline, from one on.
pub record AreOfPart (asked : Asked) (found : List PlanPiece) : Type 0 where
  pub timeline : Timeline
  pub part : Part
  pub skipped : ℕ
  pub kept : IsTimeline timeline.pieces timeline.parts
  pub pieces : AreFoundPieces asked (drop skipped (part_pieces timeline part)) found
