-- The faults of the rows of a plan, by what is kept of its files; this project's own.
use Rattle.std.specs.Prelude.{◌≡◌, ℕ, ◌+◌, ◌<◌, ◌≤◌, ◌^◌, ◌==◌, nat_lt, max, Bool, false, not, is_some, if◌then◌else◌, List, [], ◌∷◌, ◌++◌, length, map, fold, find, filter_map, slice_get, All, Option, None, option_map, Result, Ok}
use Rattle.std.specs.Bool.{then_some}
use Rattle.std.specs.Option.{option_map_or, option_or}
use Rattle.std.specs.Rc.{rc_value}
use Rattle.vod_types.specs.declared.tracks.Asked.{Asked}
use Rattle.vod_types.specs.declared.tracks.Kind.{Kind}
use Rattle.vod_types.specs.declared.tracks.Kind.TheVariants.{Video, Audio}
use Rattle.vod_types.specs.declared.segments.Form.{Form}
use Rattle.vod_types.specs.declared.segments.Form.TheVariants.{Ts, Fmp4}
use Rattle.vod_types.specs.declared.segments.Row.{Row}
use Rattle.vod_types.specs.declared.refusal.Refusal.{Refusal}
use Rattle.vod_types.specs.declared.refusal.Refusal.TheVariants.{EmptySegment, MixedCodecs, TooManySamples, SampleTooLong, OutOfFile, BackwardOffset, SegmentTooLarge}
use Rattle.vod_types.specs.Results.{◌>>◌, unless}
use Rattle.vod_types.specs.SegmentRows.{SegmentRows}
use Rattle.mp4_model.specs.Entries.{entry_type, is_hevc_type}
use Rattle.segment_model.specs.Timeline.{TrackRows}
use Rattle.media_model.specs.Fragment.{sizes}
use Rattle.media_model.specs.WritingOrder.{TrackRow, of_track, writing_order}
use Rattle.origin_model.specs.Loaded.{CheckedPiece}
use Rattle.origin_model.specs.Samples.{SegmentPlan, greatest_size, is_backward, video_type}
use Rattle.vod_plan.specs.declared.spans.PlanPiece.{PlanPiece}
use Rattle.vod_plan.specs.Spans.{piece_view}

-- what is kept of the file of a piece: its name, its size, the type of its video's sample entry, and the configurations of its
-- asked tracks
pub record FileFacts : Type 0 where
  pub name : List ℕ
  pub size : ℕ
  pub video_type : List ℕ
  pub video : List ℕ
  pub audio : List ℕ

abbrev pub file_of : CheckedPiece → FileFacts
file_of c = record { name = c.piece.name; size = c.file_size; video_type = video_type c; video = option_map_or (λ t. t.config) c.video []; audio = option_map_or (λ t. t.config) c.audio [] }

abbrev pub facts_of : PlanPiece → FileFacts
facts_of p = record {
  name = (rc_value p.meta).name;
  size = (rc_value p.meta).movie.place.file_size;
  video_type = option_map_or (λ r. entry_type r.track.entry) (piece_view p).video [];
  video = option_map_or (λ r. r.track.config) (piece_view p).video [];
  audio = option_map_or (λ r. r.track.config) (piece_view p).audio [];
}

abbrev pub config_of : Kind → FileFacts → List ℕ
config_of Video f = f.video
config_of Audio f = f.audio

-- each has a video track if one is asked
abbrev pub AreTyped : Asked → List PlanPiece → Type 0
AreTyped asked pieces = All (λ p. is_some p.video ≡ is_some asked.video) pieces

-- the name, the size and the configurations of the file of a place
abbrev pub name_in : List FileFacts → ℕ → List ℕ
name_in facts file = option_map_or (λ f. f.name) (slice_get facts file) []

abbrev pub size_in : List FileFacts → ℕ → ℕ
size_in facts file = option_map_or (λ f. f.size) (slice_get facts file) 0

abbrev pub config_in : List FileFacts → ℕ → Kind → List ℕ
config_in facts file kind = option_map_or (config_of kind) (slice_get facts file) []

-- ---- rows

-- the first fault of a row
unfoldable pub row_fault : Form → List FileFacts → TrackRow → Option Refusal
row_fault form facts r =
    let name = name_in facts r.row.file in
    let sample = r.row.sample in
    option_or (then_some (nat_lt (greatest_size form r.kind) sample.size) (SampleTooLong name r.row.number sample.size))
    (option_or (then_some (nat_lt (size_in facts r.row.file) (sample.at + sample.size)) (OutOfFile name r.row.number))
    (then_some (is_backward form r) (BackwardOffset name r.row.number)))

unfoldable pub first_fault : Form → List FileFacts → List TrackRow → Option Refusal
first_fault form facts rows = slice_get (filter_map (row_fault form facts) rows) 0

-- rows in the writing order of their form
abbrev pub ordered : Form → List Row → List Row → List TrackRow
ordered Ts video audio = writing_order video audio
ordered Fmp4 video audio = map (of_track Video) video ++ map (of_track Audio) audio

-- the row's range lies in its file, by the file's size
abbrev pub LiesInFile : List FileFacts → Row → Type 0
LiesInFile facts row = row.sample.at + row.sample.size ≤ size_in facts row.file

-- the row's range ends below 2^64
abbrev pub EndsLow : Row → Type 0
EndsLow row = row.sample.at + row.sample.size < 2 ^ 64

-- the greatest size of a sample
abbrev pub largest_in : List TrackRow → ℕ
largest_in rows = fold max 0 (map (λ r. r.row.sample.size) rows)

abbrev pub largest_of : List Row → ℕ
largest_of rows = fold max 0 (map (λ row. row.sample.size) rows)

-- ---- what comes before the rows

-- the file's video is HEVC
abbrev pub has_hevc : FileFacts → Bool
has_hevc f = is_hevc_type f.video_type

-- the first of the files whose video has another codec
abbrev pub mixed_with : FileFacts → List FileFacts → Option Refusal
mixed_with first facts = option_map (λ f. MixedCodecs f.name first.video_type f.video_type) (find (λ f. if has_hevc first then not (has_hevc f) else has_hevc f) facts)

abbrev pub mixed_in : Form → List FileFacts → Option Refusal
mixed_in Ts [] = None
mixed_in Ts (first ∷ facts) = mixed_with first facts
mixed_in Fmp4 facts = None

-- too many rows of a track
abbrev pub many_fault : ℕ → ℕ → Option Refusal
many_fault lead other = option_map (λ count. TooManySamples count) (find (nat_lt 200000) (lead ∷ other ∷ []))

-- the number of the lead track's rows, and of the other's
abbrev pub lead_first : Kind → ℕ → ℕ → ℕ × ℕ
lead_first Video video audio = (video, audio)
lead_first Audio video audio = (audio, video)

-- by how many rows the lead track and the other one have
unfoldable pub front_in : ℕ → Form → List FileFacts → ℕ → ℕ → Option Refusal
front_in number form facts lead other = option_or (then_some (lead == 0) (EmptySegment number)) (option_or (mixed_in form facts) (many_fault lead other))

-- ---- all of it

-- the bytes of all samples are too many
abbrev pub bytes_fault : ℕ → Option Refusal
bytes_fault bytes = then_some (nat_lt 2130706432 bytes) (SegmentTooLarge bytes)

-- the video of the first file is HEVC
abbrev pub begins_in : List FileFacts → Bool
begins_in facts = option_map_or has_hevc (slice_get facts 0) false

-- rows with the names and the configurations of their files
abbrev pub rows_in : List FileFacts → List Row → List Row → SegmentRows
rows_in facts video audio = record { video = video; audio = audio; name = name_in facts; config = config_in facts }

abbrev pub plan_in : List FileFacts → List Row → List Row → SegmentPlan
plan_in facts video audio = record { hevc = begins_in facts; rows = rows_in facts video audio }

-- a segment of these rows of each kind, or its first refusal
abbrev pub planned_in : ℕ → Form → List FileFacts → TrackRows → List Row → List Row → Result SegmentPlan Refusal
planned_in number form facts rows video audio = do
  unless (front_in number form facts (length rows.lead) (length rows.other))
  unless (first_fault form facts (ordered form video audio))
  unless (bytes_fault (sizes video + sizes audio))
  Ok (plan_in facts video audio)
