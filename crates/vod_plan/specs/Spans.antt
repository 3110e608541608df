-- Ranges of rows as they are kept; this project's own.
use Rattle.std.specs.Prelude.{◌≡◌, ℕ, ◌-◌, ◌^◌, ◌≤◌, List, take, sum_by, Option, Some, None, option_map, option_and_then, unsigned_abs, ⊤}
use Rattle.std.specs.Option.{option_map_or}
use Rattle.std.specs.Rc.{rc_value}
use Rattle.std.specs.Result.{result_ok}
use Rattle.vod_types.specs.declared.tracks.Kind.{Kind}
use Rattle.vod_types.specs.declared.tracks.Kind.TheVariants.{Video, Audio}
use Rattle.mp4_model.specs.Edits.{Edit}
use Rattle.mp4_model.specs.Fitting.{IsUsable}
use Rattle.mp4_model.specs.GoodTracks.{GoodTrack, track_view}
use Rattle.mp4_model.specs.Movie.{Movie}
use Rattle.mp4_model.specs.Samples.{sample_count}
use Rattle.vod_plan.specs.declared.spans.PlanPiece.{PlanPiece}
use Rattle.vod_plan.specs.declared.spans.RowSpan.{RowSpan}
use Rattle.vod_plan.specs.Ranges.{PlannedPiece, RowRange, range_of}

abbrev pub edit_of_span : RowSpan → Edit
edit_of_span s = record { delay = unsigned_abs s.delay; skip = unsigned_abs s.skip }

-- the rows of a track by their numbers
abbrev pub range_with : RowSpan → GoodTrack → RowRange
range_with s t = record { track = t; edit = edit_of_span s; from = s.from; to = s.to }

-- those of a track of a movie; none where it has no such track
abbrev pub range_in : Movie → RowSpan → Option RowRange
range_in m s = option_map (range_with s) (result_ok (track_view m.tracks s.track))

abbrev pub span_of : Kind → PlanPiece → Option RowSpan
span_of Video p = p.video
span_of Audio p = p.audio

abbrev pub piece_view : PlanPiece → PlannedPiece
piece_view p = record {
  name = (rc_value p.meta).name;
  base = p.base;
  video = option_and_then (range_in (rc_value p.meta).movie) p.video;
  audio = option_and_then (range_in (rc_value p.meta).movie) p.audio;
}

-- how many rows of a kind a piece has, and all pieces before a piece
abbrev pub rows_in : Kind → PlannedPiece → ℕ
rows_in kind p = option_map_or (λ r. r.to - r.from) (range_of kind p) 0

abbrev pub rows_before : Kind → List PlannedPiece → ℕ → ℕ
rows_before kind pieces k = sum_by (rows_in kind) (take k pieces)

-- rows of a track without a fault, with an edit of at most 2^40 units
pub record IsRange (r : RowRange) : Type 0 where
  pub usable : IsUsable r.track
  pub from : r.from ≤ r.to
  pub to : r.to ≤ sample_count r.track.tables
  pub delay : r.edit.delay ≤ 2 ^ 40
  pub skip : r.edit.skip ≤ 2 ^ 40

-- a span is a range of a track that the movie has
pub record IsRangeIn (m : Movie) (s : RowSpan) : Type 0 where
  pub range : RowRange
  pub is : range_in m s ≡ Some range
  pub good : IsRange range

abbrev pub AreRangesIn : Movie → Option RowSpan → Type 0
AreRangesIn m None = ⊤
AreRangesIn m (Some s) = IsRangeIn m s

-- each span is a range of a track that its file has
pub record IsPlanPiece (p : PlanPiece) : Type 0 where
  pub base : unsigned_abs p.base ≤ 2 ^ 41
  pub video : AreRangesIn (rc_value p.meta).movie p.video
  pub audio : AreRangesIn (rc_value p.meta).movie p.audio
