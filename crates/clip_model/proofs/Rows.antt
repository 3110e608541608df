-- Worked examples.
use Rattle.std.proofs.Common.{◌≡◌, ℕ, List, [], ◌∷◌, true, false, Some, None, Ok, Err, refl, pos, negsuc}
use Rattle.std.specs.Prelude.{codes, ⊤}
use Rattle.std.specs.Str.{is_utf8, chars}
use Rattle.serde_json.proofs.OnLiterals.{serde_json_on_literals}
use Rattle.vod_types.specs.declared.tracks.Kind.TheVariants.{Video, Audio}
use Rattle.vod_types.specs.declared.tracks.TrackName.{TrackName}
use Rattle.vod_types.specs.declared.paths.Window.{Window}
use Rattle.vod_types.specs.declared.refusal.Refusal.TheVariants.{BadJson, BadMapping, Unsupported, NoSequence, NothingSelected}
use Rattle.vod_types.specs.Json.{json_value}
use Rattle.vod_types.specs.Tracks.{track_list, track_name, track_number, default_tracks, exposed_track}
use Rattle.vod_types.specs.Files.{file_name, is_file_name, store_name}
use Rattle.vod_types.specs.Settings.{settings_of}
use Rattle.clip_model.specs.Mapping.{Mapping, Sequence, Clip, source, concat, local_mapping}
use Rattle.clip_model.specs.Members.{source_clip, concat_clip}
use Rattle.clip_model.specs.Walk.{mapping_of, mapping_of_object, sequence_of, clip_of}
use Rattle.clip_model.specs.Timeline.{timeline_of, sequence_timeline}
use Rattle.vod_types.specs.Numbers.{tagged_number, number_up_to}

-- what a row unfolds to read a text
unfoldable pub readers : ⊤
unfolding serde_json_on_literals is_utf8 chars json_value settings_of is_file_name file_name track_list track_name track_number tagged_number number_up_to source_clip concat_clip clip_of sequence_of mapping_of_object mapping_of
readers = tt

-- ---- track lists

abbrev pub video : ℕ → TrackName
video n = record { kind = Video; number = n }

abbrev pub audio : ℕ → TrackName
audio n = record { kind = Audio; number = n }

pub row_default_tracks : track_list (codes "v1-a1") ≡ Some default_tracks
unfolding readers
row_default_tracks = refl

pub row_two_digits : track_list (codes "a12-v99-v9") ≡ Some (audio 12 ∷ video 99 ∷ video 9 ∷ [])
unfolding readers
row_two_digits = refl

pub row_track_twice : track_list (codes "v1-a1-v1") ≡ None
unfolding readers
row_track_twice = refl

pub row_no_tracks : track_list (codes "") ≡ None
unfolding readers
row_no_tracks = refl

pub row_track_zero : track_list (codes "v0") ≡ None
unfolding readers
row_track_zero = refl

pub row_leading_zero : track_list (codes "v01") ≡ None
unfolding readers
row_leading_zero = refl

pub row_track_hundred : track_list (codes "a100") ≡ None
unfolding readers
row_track_hundred = refl

pub row_dash_at_end : track_list (codes "v1-") ≡ None
unfolding readers
row_dash_at_end = refl

pub row_seventeen_tracks : track_list (codes "v1-v2-v3-v4-v5-v6-v7-v8-v9-a1-a2-a3-a4-a5-a6-a7-a8") ≡ None
unfolding readers
row_seventeen_tracks = refl

-- a list without the file's missing tracks is numbered anew
pub row_exposed : exposed_track (λ t. true) (video 2 ∷ audio 1 ∷ video 1 ∷ []) (video 2) ≡ Some (video 1)
row_exposed = refl

-- ---- file names

pub row_leading_slash : file_name (codes "/a.mp4") ≡ Some (codes "a.mp4")
unfolding readers
row_leading_slash = refl

pub row_two_slashes : file_name (codes "//a.mp4") ≡ None
unfolding readers
row_two_slashes = refl

pub row_parent : file_name (codes "a/../b.mp4") ≡ None
unfolding readers
row_parent = refl

pub row_empty_name : file_name (codes "/") ≡ None
unfolding readers
row_empty_name = refl

pub row_store_name : store_name (codes "/r") (codes "c.mp4") ≡ codes "/r/c.mp4"
row_store_name = refl

-- ---- mappings

pub row_no_json : mapping_of (codes "{") ≡ Err BadJson
unfolding readers
row_no_json = refl

pub row_no_object : mapping_of (codes "1") ≡ Err (BadMapping 1)
unfolding readers
row_no_object = refl

pub row_no_sequence : mapping_of (codes "{\"sequences\":[]}") ≡ Err (BadMapping 2)
unfolding readers
row_no_sequence = refl

pub row_gain_filter : mapping_of (codes "{\"sequences\":[{\"clips\":[{\"type\":\"gainFilter\",\"gain\":0.5}]}]}") ≡ Err (Unsupported (codes "gainFilter"))
unfolding readers
row_gain_filter = refl

-- a name at the top comes before the sequences, and a key of a clip before its type
pub row_live : mapping_of (codes "{\"sequences\":1,\"playlistType\":\"live\"}") ≡ Err (Unsupported (codes "playlistType"))
unfolding readers
row_live = refl

pub row_encrypted : mapping_of (codes "{\"sequences\":[{\"clips\":[{\"type\":7,\"encryptionIv\":1}]}]}") ≡ Err (Unsupported (codes "encryptionIv"))
unfolding readers
row_encrypted = refl

pub row_type : mapping_of (codes "{\"sequences\":[{\"clips\":[{\"type\":7}]}]}") ≡ Err (BadMapping 9)
unfolding readers
row_type = refl

pub row_clip_from : mapping_of (codes "{\"sequences\":[{\"clips\":[{\"path\":\"a\",\"clipFrom\":-1}]}]}") ≡ Err (BadMapping 10)
unfolding readers
row_clip_from = refl

pub row_no_length : mapping_of (codes "{\"sequences\":[{\"clips\":[{\"type\":\"concat\",\"paths\":[\"a\"],\"durations\":[1000],\"offset\":-1000}]}]}") ≡ Err (BadMapping 11)
unfolding readers
row_no_length = refl

pub row_clip_count : mapping_of (codes "{\"durations\":[1000],\"sequences\":[{\"clips\":[]}]}") ≡ Err (BadMapping 6)
unfolding readers
row_clip_count = refl

pub row_label : mapping_of (codes "{\"sequences\":[{\"label\":\"\\\"\",\"clips\":[{\"path\":\"a\"}]}]}") ≡ Err (BadMapping 7)
unfolding readers
row_label = refl

abbrev pub plain_source : List ℕ → Clip
plain_source path = source (record { path = path; tracks = None; clip_from = 0 })

abbrev pub plain_sequence : List Clip → Sequence
plain_sequence clips = record { language = None; label = None; video_bitrate = None; audio_bitrate = None; clips = clips }

-- two sources of 20 seconds each
abbrev pub two_sources : Mapping
two_sources = record { durations = Some (20000 ∷ 20000 ∷ []); discontinuity = true; segment_ms = None; sequences = plain_sequence (plain_source (codes "a.mp4") ∷ plain_source (codes "b.mp4") ∷ []) ∷ [] }

pub row_two_sources : mapping_of (codes "{\"durations\":[20000,20000],\"sequences\":[{\"clips\":[{\"type\":\"source\",\"path\":\"/a.mp4\"},{\"type\":\"source\",\"path\":\"/b.mp4\"}]}]}") ≡ Ok two_sources
unfolding readers
row_two_sources = refl

-- two files of 5 seconds joined, of which the first second is not shown
abbrev pub joined : Mapping
joined = record { durations = None; discontinuity = true; segment_ms = None; sequences = plain_sequence (concat (record { files = record { path = codes "c/a.mp4"; duration = 5000 } ∷ record { path = codes "c/b.mp4"; duration = 5000 } ∷ []; tracks = None; offset = negsuc 999 }) ∷ []) ∷ [] }

pub row_joined : mapping_of (codes "{\"sequences\":[{\"clips\":[{\"type\":\"concat\",\"basePath\":\"/c/\",\"paths\":[\"a.mp4\",\"b.mp4\"],\"durations\":[5000,5000],\"offset\":-1000}]}]}") ≡ Ok joined
unfolding readers
row_joined = refl

-- a language, a label and bitrates
pub row_described : mapping_of (codes "{\"segmentDuration\":2000,\"discontinuity\":false,\"sequences\":[{\"language\":\"eng\",\"label\":\"English\",\"bitrate\":{\"a\":64000},\"clips\":[{\"type\":\"source\",\"path\":\"/a.mp4\",\"tracks\":\"a2\",\"clipFrom\":500}]}]}")
    ≡ Ok (record { durations = None; discontinuity = false; segment_ms = Some 2000; sequences = record { language = Some (codes "eng"); label = Some (codes "English"); video_bitrate = None; audio_bitrate = Some 64000; clips = source (record { path = codes "a.mp4"; tracks = Some (audio 2 ∷ []); clip_from = 500 }) ∷ [] } ∷ [] })
unfolding readers
row_described = refl

-- 128 levels are too many, and 127 are not
pub row_too_deep : mapping_of (codes "{\"a\":[[[[[[[[[[[[[[[[[[[[[[[[[[[[[[[[[[[[[[[[[[[[[[[[[[[[[[[[[[[[[[[[[[[[[[[[[[[[[[[[[[[[[[[[[[[[[[[[[[[[[[[[[[[[[[[[[[[[[[[[[[[[[[[]]]]]]]]]]]]]]]]]]]]]]]]]]]]]]]]]]]]]]]]]]]]]]]]]]]]]]]]]]]]]]]]]]]]]]]]]]]]]]]]]]]]]]]]]]]]]]]]]]]]]]]]]]]]]]]]]]]]]]]]]]]]]]]}") ≡ Err BadJson
unfolding readers
row_too_deep = refl

pub row_deep : mapping_of (codes "{\"a\":[[[[[[[[[[[[[[[[[[[[[[[[[[[[[[[[[[[[[[[[[[[[[[[[[[[[[[[[[[[[[[[[[[[[[[[[[[[[[[[[[[[[[[[[[[[[[[[[[[[[[[[[[[[[[[[[[[[[[[[[[[[[[[]]]]]]]]]]]]]]]]]]]]]]]]]]]]]]]]]]]]]]]]]]]]]]]]]]]]]]]]]]]]]]]]]]]]]]]]]]]]]]]]]]]]]]]]]]]]]]]]]]]]]]]]]]]]]]]]]]]]]]]]]]]]]]}") ≡ Err (BadMapping 2)
unfolding readers
row_deep = refl

pub row_no_utf8 : mapping_of (123 ∷ 34 ∷ 255 ∷ 34 ∷ 58 ∷ 48 ∷ 125 ∷ []) ≡ Err BadJson
unfolding readers
row_no_utf8 = refl

pub row_last_member : mapping_of (codes "{\"sequences\":[{}],\"discontinuity\":true,\"discontinuity\":1}") ≡ Err (BadMapping 4)
unfolding readers
row_last_member = refl

pub row_segment_before_clips : mapping_of (codes "{\"segmentDuration\":0,\"sequences\":[{\"clips\":0}]}") ≡ Err (BadMapping 5)
unfolding readers
row_segment_before_clips = refl

pub row_second_clip : mapping_of (codes "{\"durations\":[1,1],\"sequences\":[{\"clips\":[{\"path\":\"a\"},{\"type\":\"source\",\"path\":\".\"}]}]}") ≡ Err (BadMapping 10)
unfolding readers
row_second_clip = refl

pub row_zero_float : mapping_of (codes "{\"sequences\":[{\"clips\":[{\"path\":\"a\",\"clipFrom\":0.0}]}]}") ≡ Err (BadMapping 10)
unfolding readers
row_zero_float = refl

pub row_two_renditions : mapping_of (codes "{\"sequences\":[{\"bitrate\":{\"v\":1000000},\"clips\":[{\"type\":\"source\",\"path\":\"/v.mp4\",\"tracks\":\"v1\"}]},{\"language\":\"eng\",\"label\":\"English\",\"bitrate\":{\"a\":64000},\"clips\":[{\"type\":\"source\",\"path\":\"/a.mp4\"}]}]}")
    ≡ Ok (record {
      durations = None;
      discontinuity = true;
      segment_ms = None;
      sequences =
          record { language = None; label = None; video_bitrate = Some 1000000; audio_bitrate = None; clips = source (record { path = codes "v.mp4"; tracks = Some (video 1 ∷ []); clip_from = 0 }) ∷ [] }
          ∷ record { language = Some (codes "eng"); label = Some (codes "English"); video_bitrate = None; audio_bitrate = Some 64000; clips = plain_source (codes "a.mp4") ∷ [] } ∷ [];
    })
unfolding readers
row_two_renditions = refl

-- ---- timelines

abbrev pub whole : Window
whole = record { from = 0; to = None }

pub row_two_parts : timeline_of (codes "/r") two_sources 1 whole None ≡ Ok (record {
  pieces = record { name = codes "/r/a.mp4"; tracks = default_tracks; base = pos 0; lo = pos 0; hi = Some (pos 1800000); part = 0 }
      ∷ record { name = codes "/r/b.mp4"; tracks = default_tracks; base = pos 1800000; lo = pos 0; hi = Some (pos 1800000); part = 1 } ∷ [];
  parts = record { start = pos 0; length_ms = Some 20000; first = 0; count = 1 } ∷ record { start = pos 1800000; length_ms = Some 20000; first = 1; count = 1 } ∷ [];
})
unfolding timeline_of sequence_timeline
row_two_parts = refl

pub row_joined_pieces : timeline_of (codes "/r") joined 1 whole None ≡ Ok (record {
  pieces = record { name = codes "/r/c/a.mp4"; tracks = default_tracks; base = negsuc 89999; lo = pos 90000; hi = Some (pos 450000); part = 0 }
      ∷ record { name = codes "/r/c/b.mp4"; tracks = default_tracks; base = pos 360000; lo = pos 0; hi = Some (pos 450000); part = 0 } ∷ [];
  parts = record { start = pos 0; length_ms = Some 9000; first = 0; count = 2 } ∷ [];
})
unfolding timeline_of sequence_timeline
row_joined_pieces = refl

-- a window from 15 to 25 seconds leaves 5 seconds of each clip
pub row_window : timeline_of (codes "/r") two_sources 1 (record { from = 15000; to = Some 25000 }) (Some (video 1 ∷ [])) ≡ Ok (record {
  pieces = record { name = codes "/r/a.mp4"; tracks = video 1 ∷ []; base = negsuc 1349999; lo = pos 1350000; hi = Some (pos 1800000); part = 0 }
      ∷ record { name = codes "/r/b.mp4"; tracks = video 1 ∷ []; base = pos 450000; lo = pos 0; hi = Some (pos 450000); part = 1 } ∷ [];
  parts = record { start = pos 0; length_ms = Some 5000; first = 0; count = 1 } ∷ record { start = pos 450000; length_ms = Some 5000; first = 1; count = 1 } ∷ [];
})
unfolding timeline_of sequence_timeline
row_window = refl

-- a window from 20 seconds on drops the first part
pub row_second_part : timeline_of (codes "/r") two_sources 1 (record { from = 20000; to = None }) None ≡ Ok (record {
  pieces = record { name = codes "/r/b.mp4"; tracks = default_tracks; base = pos 0; lo = pos 0; hi = Some (pos 1800000); part = 0 } ∷ [];
  parts = record { start = pos 0; length_ms = Some 20000; first = 0; count = 1 } ∷ [];
})
unfolding timeline_of sequence_timeline
row_second_part = refl

-- without discontinuities the sequence is one part
pub row_one_part : timeline_of (codes "/r") (record two_sources { discontinuity = false }) 1 (record { from = 15000; to = Some 25000 }) None ≡ Ok (record {
  pieces = record { name = codes "/r/a.mp4"; tracks = default_tracks; base = negsuc 1349999; lo = pos 1350000; hi = Some (pos 1800000); part = 0 }
      ∷ record { name = codes "/r/b.mp4"; tracks = default_tracks; base = pos 450000; lo = pos 0; hi = Some (pos 450000); part = 0 } ∷ [];
  parts = record { start = pos 0; length_ms = Some 10000; first = 0; count = 2 } ∷ [];
})
unfolding timeline_of sequence_timeline
row_one_part = refl

pub row_local : timeline_of (codes "/r") (local_mapping (codes "a.mp4" ∷ []) (audio 1 ∷ [])) 1 (record { from = 10; to = None }) None ≡ Ok (record {
  pieces = record { name = codes "/r/a.mp4"; tracks = audio 1 ∷ []; base = negsuc 899; lo = pos 900; hi = None; part = 0 } ∷ [];
  parts = record { start = pos 0; length_ms = None; first = 0; count = 1 } ∷ [];
})
unfolding timeline_of sequence_timeline
row_local = refl

pub row_no_such_sequence : timeline_of (codes "/r") two_sources 2 whole None ≡ Err (NoSequence 2 1)
unfolding timeline_of sequence_timeline
row_no_such_sequence = refl

pub row_sequence_zero : timeline_of (codes "/r") two_sources 0 whole None ≡ Err (NoSequence 0 1)
unfolding timeline_of sequence_timeline
row_sequence_zero = refl

pub row_past_the_end : timeline_of (codes "/r") two_sources 1 (record { from = 40000; to = None }) None ≡ Err (NothingSelected 1)
unfolding timeline_of sequence_timeline
row_past_the_end = refl
