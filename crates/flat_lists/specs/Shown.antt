-- A sequence as a master playlist shows it; this project's own.
use Rattle.std.specs.Prelude.{ℕ, ◌+◌, ◌≤◌, ◌^◌, Bool, true, false, not, List, [], ◌∷◌, ◌++◌, filter, map, sum, take, Option, option_map, option_and_then, unwrap_or, Result, Ok, if◌then◌else◌}
use Rattle.std.specs.Int.{IsInRange}
use Rattle.std.specs.Option.{option_map_or}
use Rattle.vod_types.specs.declared.refusal.Refusal.{Refusal}
use Rattle.vod_types.specs.declared.tracks.Asked.{Asked}
use Rattle.vod_types.specs.declared.tracks.Kind.{Kind}
use Rattle.vod_types.specs.declared.tracks.Kind.TheVariants.{Video, Audio}
use Rattle.vod_types.specs.Results.{◌>>=◌, each_in_turn}
use Rattle.mp4_model.specs.GoodTracks.{GoodTrack}
use Rattle.mp4_model.specs.Movie.{Movie}
use Rattle.mp4_model.specs.Samples.{sample_deltas, sample_sizes}
use Rattle.mp4_model.specs.Video.{video_codec_name}
use Rattle.clip_model.specs.declared.Piece.{Piece}
use Rattle.clip_model.specs.Mapping.{Mapping, bitrate_of, sequence_at}
use Rattle.list_model.specs.declared.Rendition.{Rendition}
use Rattle.list_model.specs.declared.Variant.{Variant}
use Rattle.list_model.specs.Iframes.{iframe_stream_lines}
use Rattle.list_model.specs.Playlist.{IsVariant, bandwidth_of, is_audio_only, grouped, ungrouped, master_playlist}
use Rattle.vod_source.specs.Stored.{Read}
use Rattle.origin_model.specs.Lists.{ShownSequence, aac_of, asked_first, checked_first, first_track, sequence_numbers, shown_sequence}
use Rattle.origin_model.specs.Plans.{pieces_or_none}
use Rattle.origin_model.specs.Reads.{turns}
use Rattle.origin_model.specs.Requests.{Setup, Asking, timeline_asked}
use Rattle.flat_samples.specs.Checks.{checked_in}
use Rattle.flat_lists.specs.declared.shown.Shown.{Shown}
use Rattle.flat_lists.specs.Steps.{names_through}

-- ---- one sequence

-- the bits per second of a track of a kind
abbrev pub bandwidth_in : Mapping → ℕ → Kind → GoodTrack → ℕ
bandwidth_in m sequence kind t =
    bandwidth_of (option_and_then (bitrate_of kind) (sequence_at m sequence)) (sum (sample_sizes t.tables)) t.timescale (sum (sample_deltas t.tables))

-- by the asked tracks and what they are
abbrev pub shown_of : Mapping → ℕ → Asked → Option GoodTrack → Option GoodTrack → Shown
shown_of m sequence asked video audio = record {
  sequence = sequence;
  asked = asked;
  video_bandwidth = option_map_or (bandwidth_in m sequence Video) video 0;
  audio_bandwidth = option_map_or (bandwidth_in m sequence Audio) audio 0;
  size = option_map (λ t. (t.width, t.height)) video;
  video = option_map video_codec_name video;
  aac = option_map aac_of audio;
}

abbrev pub shown_by : Mapping → ShownSequence → Shown
shown_by m s = shown_of m s.number s.asked s.first.video s.first.audio

-- by its first piece, in the movie of its file
unfoldable pub shown_in_movie : Bool → Mapping → ℕ → Piece → Movie → Result Shown Refusal
shown_in_movie edits m sequence piece movie = do
  asked ← asked_first piece.name (first_track piece movie Video) (first_track piece movie Audio)
  c ← checked_in edits asked piece movie
  Ok (shown_of m sequence asked c.video c.audio)

abbrev pub shown_by_piece : Setup → Asking → ℕ → Piece → Result Shown Refusal
shown_by_piece o a sequence piece = checked_first o a piece >>= λ first. Ok (shown_by a.mapping (record { number = sequence; asked = first.0; first = first.1 }))

abbrev pub shown_due : Setup → Asking → ℕ → Result Shown Refusal
shown_due o a sequence = shown_sequence o a sequence >>= λ s. Ok (shown_by a.mapping s)

-- the name of its first piece
abbrev pub first_names : Setup → Asking → ℕ → List (List ℕ)
first_names o a sequence = map (λ piece. piece.name) (pieces_or_none (timeline_asked o a sequence >>= λ t. Ok (take 1 t.pieces)))

-- its variant
abbrev pub variant_by : Shown → Variant
variant_by s = record { sequence = s.sequence; asked = s.asked; bandwidth = s.video_bandwidth + s.audio_bandwidth; size = s.size; video = s.video; aac = s.aac }

-- the sum of its bandwidths fits, also beside a group
pub record HasBandwidths (s : Shown) : Type 0 where
  pub video : s.video_bandwidth ≤ 2 ^ 102
  pub audio : s.audio_bandwidth ≤ 2 ^ 102

-- its number is that of a sequence, and it can be written
pub record IsShown (count : ℕ) (s : Shown) : Type 0 where
  pub number : IsInRange 1 count s.sequence
  pub bandwidths : HasBandwidths s
  pub variant : IsVariant (variant_by s)

-- ---- all of them

abbrev pub all_shown : Setup → Asking → Result (List Shown) Refusal
all_shown o a = each_in_turn (shown_due o a) (sequence_numbers o a)

abbrev pub shown_turns : Setup → Asking → List Read
shown_turns o a = (turns o.files [] (names_through (shown_due o a) (first_names o a) (sequence_numbers o a))).reads

-- ---- what is written of them

-- the same of its video alone
abbrev pub iframe_variant_by : Shown → Variant
iframe_variant_by s = record { sequence = s.sequence; asked = s.asked; bandwidth = s.video_bandwidth; size = s.size; video = s.video; aac = s.aac }

abbrev pub rendition_by : Mapping → Variant → Rendition
rendition_by m v = record {
  sequence = v.sequence;
  bandwidth = v.bandwidth;
  aac = unwrap_or v.aac 0;
  language = option_and_then (λ s. s.language) (sequence_at m v.sequence);
  label = option_and_then (λ s. s.label) (sequence_at m v.sequence);
}

-- what of a sequence is a variant by itself, and what of it is in the audio group, where there is one or isn't
abbrev pub out_of_group : Bool → Shown → List Variant
out_of_group true s = filter (λ v. not (is_audio_only v)) (variant_by s ∷ [])
out_of_group false s = variant_by s ∷ []

abbrev pub in_group : Mapping → Bool → Shown → List Rendition
in_group m true s = map (rendition_by m) (filter is_audio_only (variant_by s ∷ []))
in_group m false s = []

abbrev pub playlist_by : Mapping → List Shown → List ℕ
playlist_by m shown = master_playlist (ungrouped (map variant_by shown)) (map (rendition_by m) (grouped (map variant_by shown)))

abbrev pub streams_by : Bool → List Shown → List ℕ
streams_by iframes shown = if iframes then iframe_stream_lines (map iframe_variant_by shown) else []

unfoldable pub text_by : Mapping → Bool → List Shown → List ℕ
text_by m iframes shown = playlist_by m shown ++ streams_by iframes shown
