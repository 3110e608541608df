-- What seeks find in the rows of a track; this project's own.
use Rattle.std.specs.Prelude.{ℕ, ◌+◌, ◌-◌, max, Bool, Option, Some, None, ℤ, pos, nat_lt, if◌then◌else◌}
use Rattle.vod_types.specs.declared.tracks.Kind.{Kind}
use Rattle.vod_types.specs.declared.tracks.Kind.TheVariants.{Video, Audio}
use Rattle.mp4_model.specs.Clock.{to_units}
use Rattle.mp4_model.specs.Edits.{Edit}
use Rattle.mp4_model.specs.GoodTracks.{GoodTrack}
use Rattle.mp4_model.specs.Samples.{decode_time, first_sample_at, first_sync_from, sample_count}
use Rattle.segment_model.specs.Numbered.{media_time}
use Rattle.segment_model.specs.Rows.{SourceTrack, kept_from}
use Rattle.clip_model.specs.declared.Piece.{Piece}
use Rattle.origin_model.specs.Sources.{source_track}
use Rattle.vod_plan.specs.Ranges.{RowRange}

-- ---- numbers and times of rows

abbrev pub source : Kind → RowRange → SourceTrack
source kind r = source_track kind r.edit (Some r.track)

-- the first row that isn't before a time of the media, or the number of rows
abbrev pub first_from : RowRange → ℤ → ℕ
first_from r time = first_sample_at r.track.tables r.track.timescale time

-- the first row that the edit keeps
abbrev pub first_kept : Kind → RowRange → ℕ
first_kept kind r = first_from r (pos (kept_from (source kind r)))

-- the first row of which the media isn't before that of a time of the file
abbrev pub found_at : Kind → RowRange → ℤ → ℕ
found_at kind r time = first_from r (media_time (source kind r) time)

-- where the rows end whose media is before that of a time of the file
abbrev pub found_past : Kind → RowRange → Option ℤ → ℕ
found_past kind r None = sample_count r.track.tables
found_past kind r (Some time) = found_at kind r time

-- the same row, or the first sync row from it on
abbrev pub aligned : Bool → RowRange → ℕ → ℕ
aligned align r row = if align then first_sync_from r.track.tables row else row

-- when a row is decoded, in units, and where it stands in the time of the file
abbrev pub units_at : RowRange → ℕ → ℕ
units_at r row = to_units r.track.timescale (decode_time r.track.tables row)

abbrev pub place_at : Kind → RowRange → ℕ → ℤ
place_at kind r row = pos (units_at r row + r.edit.delay - kept_from (source kind r))

-- ---- ranges between two times of the file

-- all rows
abbrev pub whole_range : Edit → GoodTrack → RowRange
whole_range edit t = record { track = t; edit = edit; from = 0; to = sample_count t.tables }

-- the rows from one number on and before another; none where that isn't above
abbrev pub rows_from : RowRange → ℕ → ℕ → RowRange
rows_from r from to = record { track = r.track; edit = r.edit; from = from; to = max to from }

-- those of the lead track, from a sync row on
abbrev pub lead_range : Kind → ℤ → Option ℤ → RowRange → RowRange
lead_range kind lo hi r = rows_from r (first_sync_from r.track.tables (max (first_kept kind r) (found_at kind r lo))) (found_past kind r hi)

-- where its first row stands
abbrev pub first_place : Kind → RowRange → Option ℤ
first_place kind r = if nat_lt r.from r.to then Some (place_at kind r r.from) else None

-- those of another track, where the first row of the lead stands there, and none where it has none
abbrev pub other_range : Kind → Option ℤ → Option ℤ → RowRange → RowRange
other_range kind None hi r = rows_from r (first_kept kind r) (first_kept kind r)
other_range kind (Some first) hi r = rows_from r (max (first_kept kind r) (found_at kind r first)) (found_past kind r hi)

-- those of both tracks
abbrev pub video_range : Piece → Option RowRange → Option RowRange
video_range p None = None
video_range p (Some v) = Some (lead_range Video p.lo p.hi v)

abbrev pub audio_range : Piece → Option RowRange → Option RowRange → Option RowRange
audio_range p v None = None
audio_range p None (Some a) = Some (lead_range Audio p.lo p.hi a)
audio_range p (Some v) (Some a) = Some (other_range Audio (first_place Video (lead_range Video p.lo p.hi v)) p.hi a)
