-- Ranges of which fewer rows are taken; this project's own.
use Rattle.std.specs.Prelude.{ℕ, ◌+◌, max, Bool, false, not, ◌&&◌, List, filter, Option, Some, None, option_map, ℤ, int_le}
use Rattle.std.specs.List.{position_or_len}
use Rattle.std.specs.Option.{option_map_or}
use Rattle.vod_types.specs.declared.tracks.Kind.{Kind}
use Rattle.vod_types.specs.declared.tracks.Kind.TheVariants.{Video, Audio}
use Rattle.segment_model.specs.Rows.{TimedRow}
use Rattle.vod_plan.specs.declared.spans.PlanPiece.{PlanPiece}
use Rattle.vod_plan.specs.declared.spans.RowSpan.{RowSpan}
use Rattle.vod_plan.specs.Ranges.{PlannedPiece, RowRange, range_of, range_rows}
use Rattle.vod_plan.specs.Selected.{begins_by, IsKeptIn}
use Rattle.vod_plan.specs.Spans.{piece_view, rows_in, IsPlanPiece}

abbrev pub other_kind : Kind → Kind
other_kind Video = Audio
other_kind Audio = Video

-- ---- fewer rows of a range

-- the rows from an index on and before another
abbrev pub narrow_range : ℕ → ℕ → RowRange → RowRange
narrow_range from to r = record { track = r.track; edit = r.edit; from = r.from + from; to = r.from + max from to }

abbrev pub narrow_span : ℕ → ℕ → RowSpan → RowSpan
narrow_span from to s = record { track = s.track; delay = s.delay; skip = s.skip; from = s.from + from; to = s.from + max from to }

-- those of a kind of a piece
abbrev pub narrowed : Kind → ℕ → ℕ → PlannedPiece → PlannedPiece
narrowed Video from to p = record { name = p.name; base = p.base; video = option_map (narrow_range from to) p.video; audio = p.audio }
narrowed Audio from to p = record { name = p.name; base = p.base; video = p.video; audio = option_map (narrow_range from to) p.audio }

-- ---- by time

-- a time isn't before another one, of which none is above all
abbrev pub is_after : Option ℤ → ℤ → Bool
is_after None time = false
is_after (Some t) time = int_le t time

-- the rows that aren't before a time, and that are before another
abbrev pub between_times : Option ℤ → Option ℤ → List TimedRow → List TimedRow
between_times from to rows = filter (λ r. is_after from r.place && not (is_after to r.place)) rows

-- how many rows of a kind of a piece stand before the first that isn't before a time and, with alignment, is a sync row
abbrev pub index_by : Kind → Bool → ℤ → PlannedPiece → ℕ
index_by kind align time p = option_map_or (λ r. position_or_len (begins_by align time) (range_rows kind 0 p.base r)) (range_of kind p) 0

-- how many are before a time, of which none is above all
abbrev pub index_at : Kind → Option ℤ → PlannedPiece → ℕ
index_at kind None p = rows_in kind p
index_at kind (Some time) p = index_by kind false time p

-- ---- what cutting keeps

-- each range is one of a track without a fault, and none has a row before those that the edit keeps
pub record IsSound (p : PlanPiece) : Type 0 where
  pub piece : IsPlanPiece p
  pub video : IsKeptIn Video (piece_view p)
  pub audio : IsKeptIn Audio (piece_view p)
