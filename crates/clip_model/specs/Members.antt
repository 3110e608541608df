-- What the members of a mapping's objects must be, each rule by itself.
use Rattle.std.specs.Prelude.{ℕ, List, [], ◌∷◌, ◌++◌, length, sum, Bool, not, ◌&&◌, ◌||◌, ◌==◌, nat_le, if◌then◌else◌, Option, Some, None, is_some, pos, negsuc, int_le, codes, chars}
use Rattle.std.specs.Char.{is_control}
use Rattle.std.specs.Int.{is_in_range}
use Rattle.std.specs.List.{list_all, list_any}
use Rattle.serde_json.specs.Data.{Data}
use Rattle.serde_json.specs.Find.{as_str, get}
use Rattle.vod_types.specs.declared.tracks.TrackName.{TrackName}
use Rattle.vod_types.specs.Options.{◌>>=◌, passing, each}
use Rattle.vod_types.specs.Json.{if_present, or_default, object, array_within, number_within, integer_within}
use Rattle.vod_types.specs.Tracks.{track_list}
use Rattle.vod_types.specs.Files.{file_name}
use Rattle.clip_model.specs.Mapping.{SourceClip, ConcatFile, ConcatClip, concat_length}

-- ---- of the mapping

-- 1 to 32 objects
abbrev pub sequence_objects : Data → Option (List Data)
sequence_objects mapping = get (codes "sequences") mapping >>= array_within 1 32 object

-- 1 to 128 lengths of clips, at most ten days together
abbrev pub top_durations : Data → Option (List ℕ)
top_durations d = array_within 1 128 (number_within 1 86400000) d >>= passing (λ ds. nat_le (sum ds) 864000000)

-- ---- of a sequence

-- how many clips a sequence has
abbrev pub clip_count : Option (List ℕ) → ℕ
clip_count None = 1
clip_count (Some durations) = length durations

abbrev pub clip_objects : Option (List ℕ) → Data → Option (List Data)
clip_objects durations sequence = get (codes "clips") sequence >>= array_within (clip_count durations) (clip_count durations) object

-- three letters, as in ISO 639-2
abbrev pub language : Data → Option (List ℕ)
language d = as_str d >>= passing (λ text. length text == 3 && list_all (is_in_range 97 122) text)

-- a text that may stand between double quotes
abbrev pub label : Data → Option (List ℕ)
label d = as_str d >>= passing (λ text. is_in_range 1 128 (length text) && not (list_any (λ c. is_control c || c == 34) (chars text)))

pub record Labels : Type 0 where
  pub language : Option (List ℕ)
  pub label : Option (List ℕ)

abbrev pub labels : Data → Option Labels
labels sequence = do
  spoken ← if_present language (get (codes "language") sequence)
  shown ← if_present label (get (codes "label") sequence)
  Some (record { language = spoken; label = shown })

pub record Bitrates : Type 0 where
  pub video : Option ℕ
  pub audio : Option ℕ

abbrev pub bitrates_of : Data → Option Bitrates
bitrates_of rates = do
  video ← if_present (number_within 1 1000000000) (get (codes "v") rates)
  audio ← if_present (number_within 1 1000000000) (get (codes "a") rates)
  Some (record { video = video; audio = audio })

abbrev pub bitrates : Data → Option Bitrates
bitrates sequence = or_default (record { video = None; audio = None }) (λ d. object d >>= bitrates_of) (get (codes "bitrate") sequence)

-- ---- of a clip

-- A clip with a path and no type is a source clip.
abbrev pub type_or_source : Bool → Option Data → Option (List ℕ)
type_or_source has_path None = if has_path then Some (codes "source") else None
type_or_source has_path (Some d) = as_str d

abbrev pub clip_type : Data → Option (List ℕ)
clip_type clip = type_or_source (is_some (get (codes "path") clip)) (get (codes "type") clip)

abbrev pub file_of_text : Data → Option (List ℕ)
file_of_text d = as_str d >>= file_name

abbrev pub tracks_of_text : Data → Option (List TrackName)
tracks_of_text d = as_str d >>= track_list

abbrev pub clip_tracks : Data → Option (Option (List TrackName))
clip_tracks clip = if_present tracks_of_text (get (codes "tracks") clip)

unfoldable pub source_clip : Data → Option SourceClip
source_clip clip = do
  path ← get (codes "path") clip >>= file_of_text
  tracks ← clip_tracks clip
  clip_from ← or_default 0 (number_within 0 864000000) (get (codes "clipFrom") clip)
  Some (record { path = path; tracks = tracks; clip_from = clip_from })

-- files and their durations, in pairs
abbrev pub concat_files : List (List ℕ) → List ℕ → List ConcatFile
concat_files (p ∷ ps) (d ∷ ds) = record { path = p; duration = d } ∷ concat_files ps ds
concat_files [] ds = []
concat_files (p ∷ ps) [] = []

-- where the mapping has no durations, the clip has a length of its own
abbrev pub has_length : Bool → ConcatClip → Bool
has_length lengths_given c = lengths_given || int_le (pos 1) (concat_length c)

unfoldable pub concat_clip : Bool → Data → Option ConcatClip
concat_clip lengths_given clip = do
  texts ← get (codes "paths") clip >>= array_within 1 128 as_str
  durations ← get (codes "durations") clip >>= array_within (length texts) (length texts) (number_within 1 86400000)
  offset ← or_default (pos 0) (integer_within (negsuc 86399999) (pos 86400000)) (get (codes "offset") clip)
  base ← or_default [] as_str (get (codes "basePath") clip)
  names ← each (λ text. file_name (base ++ text)) texts
  tracks ← clip_tracks clip
  passing (has_length lengths_given) (record { files = concat_files names durations; tracks = tracks; offset = offset })
