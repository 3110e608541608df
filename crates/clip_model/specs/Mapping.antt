-- What a mapping says, after the members of nginx-vod-module's mapping; the rules are this project's own. Times are in milliseconds.
use Rattle.std.specs.Prelude.{◌≡◌, ℕ, ◌≤◌, List, [], ◌∷◌, length, map, sum, sum_by, Bool, true, Option, Some, None, IfSome, ℤ, pos, negsuc, ◌+ℤ◌, ◌≤ℤ◌}
use Rattle.std.specs.Int.{IsInRange}
use Rattle.std.specs.List.{AllByRecursion}
use Rattle.vod_types.specs.declared.tracks.Kind.{Kind}
use Rattle.vod_types.specs.declared.tracks.Kind.TheVariants.{Video, Audio}
use Rattle.vod_types.specs.declared.tracks.TrackName.{TrackName}
use Rattle.vod_types.specs.Lists.{nth_from_one}

-- a file from a place on
pub record SourceClip : Type 0 where
  pub path : List ℕ
  pub tracks : Option (List TrackName)
  pub clip_from : ℕ

-- a file of a concat clip, and how long it is
pub record ConcatFile : Type 0 where
  pub path : List ℕ
  pub duration : ℕ

-- files one after another; the first begins `offset` after the clip
pub record ConcatClip : Type 0 where
  pub files : List ConcatFile
  pub tracks : Option (List TrackName)
  pub offset : ℤ

pub data Clip : Type 0 where
  source : SourceClip → Clip
  concat : ConcatClip → Clip

pub record Sequence : Type 0 where
  pub language : Option (List ℕ)
  pub label : Option (List ℕ)
  pub video_bitrate : Option ℕ
  pub audio_bitrate : Option ℕ
  pub clips : List Clip

pub record Mapping : Type 0 where
  pub durations : Option (List ℕ)
  pub discontinuity : Bool
  pub segment_ms : Option ℕ
  pub sequences : List Sequence

abbrev pub bitrate_of : Kind → Sequence → Option ℕ
bitrate_of Video s = s.video_bitrate
bitrate_of Audio s = s.audio_bitrate

-- the sequence of a number, from 1
abbrev pub sequence_at : Mapping → ℕ → Option Sequence
sequence_at m number = nth_from_one m.sequences number

-- how many files a clip names
abbrev pub file_count : Clip → ℕ
file_count (source c) = 1
file_count (concat c) = length c.files

-- the number, or 0 where it is negative
abbrev pub from_zero : ℤ → ℕ
from_zero (pos n) = n
from_zero (negsuc n) = 0

-- a concat clip's own length
abbrev pub concat_length : ConcatClip → ℤ
concat_length c = pos (sum_by (λ f. f.duration) c.files) +ℤ c.offset

-- the mapping of local mode: a sequence of one clip per file
abbrev pub local_sequence : List TrackName → List ℕ → Sequence
local_sequence tracks name = record {
  language = None;
  label = None;
  video_bitrate = None;
  audio_bitrate = None;
  clips = source (record { path = name; tracks = Some tracks; clip_from = 0 }) ∷ [];
}

abbrev pub local_mapping : List (List ℕ) → List TrackName → Mapping
local_mapping names tracks = record { durations = None; discontinuity = true; segment_ms = None; sequences = map (local_sequence tracks) names }

-- ---- what the rules keep

pub record IsConcatClip (c : ConcatClip) : Type 0 where
  pub file_count : IsInRange 1 128 (length c.files)
  pub durations : AllByRecursion (λ f. IsInRange 1 86400000 f.duration) c.files
  pub offset_low : negsuc 86399999 ≤ℤ c.offset
  pub offset_high : c.offset ≤ℤ pos 86400000

abbrev pub IsClip : Clip → Type 0
IsClip (source c) = c.clip_from ≤ 864000000
IsClip (concat c) = IsConcatClip c

-- without durations of the mapping, a concat clip has a length of its own
abbrev pub HasLength : Clip → Type 0
HasLength (source c) = Unit {0}
HasLength (concat c) = pos 1 ≤ℤ concat_length c

-- the clips of a sequence, beside the durations of the mapping
abbrev pub FitDurations : Option (List ℕ) → List Clip → Type 0
FitDurations (Some durations) clips = length clips ≡ length durations
FitDurations None clips = (length clips ≡ 1) × AllByRecursion HasLength clips

pub record IsSequence (durations : Option (List ℕ)) (s : Sequence) : Type 0 where
  pub clips : AllByRecursion IsClip s.clips
  pub fit : FitDurations durations s.clips
  pub files : sum_by file_count s.clips ≤ 1024
  pub language : IfSome s.language (λ letters. length letters ≡ 3)

pub record IsDurations (durations : List ℕ) : Type 0 where
  pub count : IsInRange 1 128 (length durations)
  pub each : AllByRecursion (IsInRange 1 86400000) durations
  pub total : sum durations ≤ 864000000

pub record IsMapping (m : Mapping) : Type 0 where
  pub durations : IfSome m.durations IsDurations
  pub segment_ms : IfSome m.segment_ms (IsInRange 1 600000)
  pub count : IsInRange 1 32 (length m.sequences)
  pub sequences : AllByRecursion (IsSequence m.durations) m.sequences
