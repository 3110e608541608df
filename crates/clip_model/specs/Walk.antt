-- Reading a mapping, with the first rule that is broken or the first name that is not supported.
use Rattle.std.specs.Prelude.{ℕ, List, [], ◌∷◌, sum_by, Bool, true, false, nat_le, if◌then◌else◌, Option, Some, None, option_map, is_some, ok_or, Result, Ok, Err, codes, ⊤}
use Rattle.std.specs.Option.{option_map_or}
use Rattle.std.specs.Str.{bytes_eq}
use Rattle.serde_json.specs.Data.{Data}
use Rattle.serde_json.specs.Find.{as_bool, as_str, get}
use Rattle.vod_types.specs.declared.refusal.Refusal.{Refusal}
use Rattle.vod_types.specs.declared.refusal.Refusal.TheVariants.{BadJson, BadMapping, Unsupported}
use Rattle.vod_types.specs.Options.{passing}
use Rattle.vod_types.specs.Json.{json_value, if_present, or_default, object, number_within}
use Rattle.clip_model.specs.Mapping.{Clip, source, concat, Sequence, Mapping, file_count}
use Rattle.clip_model.specs.Members.{top_durations, sequence_objects, clip_objects, labels, bitrates, source_clip, concat_clip, clip_type}
use Rattle.vod_types.specs.Results.{◌>>=◌, each_in_turn}

-- what a rule takes, or that the rule is broken
abbrev pub by_rule : {A : Type 0} → ℕ → Option A → Result A Refusal
by_rule rule found = ok_or found (BadMapping rule)

-- the first of the names that an object has is refused
abbrev pub without_members : List (List ℕ) → Data → Result ⊤ Refusal
without_members [] d = Ok tt
without_members (name ∷ names) d = if is_some (get name d) then Err (Unsupported name) else without_members names d

-- an absent `playlistType` is `vod`
abbrev pub is_vod : Option Data → Bool
is_vod None = true
is_vod (Some d) = option_map_or (λ text. bytes_eq text (codes "vod")) (as_str d) false

abbrev pub vod_alone : Data → Result ⊤ Refusal
vod_alone mapping = if is_vod (get (codes "playlistType") mapping) then Ok tt else Err (Unsupported (codes "playlistType"))

-- a clip by its type
abbrev pub typed_clip : Bool → List ℕ → Data → Result Clip Refusal
typed_clip lengths_given type clip =
    if bytes_eq type (codes "source") then by_rule 10 (option_map source (source_clip clip))
    else (if bytes_eq type (codes "concat") then by_rule 11 (option_map concat (concat_clip lengths_given clip))
    else Err (Unsupported type))

unfoldable pub clip_of : Bool → Data → Result Clip Refusal
clip_of lengths_given clip = do
  supported ← without_members (codes "encryptionKey" ∷ codes "encryptionIv" ∷ []) clip
  type ← by_rule 9 (clip_type clip)
  typed_clip lengths_given type clip

unfoldable pub sequence_of : Option (List ℕ) → Data → Result Sequence Refusal
sequence_of durations sequence = do
  objects ← by_rule 6 (clip_objects durations sequence)
  named ← by_rule 7 (labels sequence)
  rates ← by_rule 8 (bitrates sequence)
  read ← each_in_turn (clip_of (is_some durations)) objects
  clips ← by_rule 12 (passing (λ cs. nat_le (sum_by file_count cs) 1024) read)
  Ok (record { language = named.language; label = named.label; video_bitrate = rates.video; audio_bitrate = rates.audio; clips = clips })

unfoldable pub mapping_of_object : Data → Result Mapping Refusal
mapping_of_object mapping = do
  supported ← without_members (codes "clipFrom" ∷ codes "clipTo" ∷ codes "notifications" ∷ codes "closedCaptions" ∷ []) mapping
  vod ← vod_alone mapping
  objects ← by_rule 2 (sequence_objects mapping)
  durations ← by_rule 3 (if_present top_durations (get (codes "durations") mapping))
  discontinuity ← by_rule 4 (or_default true as_bool (get (codes "discontinuity") mapping))
  segment_ms ← by_rule 5 (if_present (number_within 1 600000) (get (codes "segmentDuration") mapping))
  sequences ← each_in_turn (sequence_of durations) objects
  Ok (record { durations = durations; discontinuity = discontinuity; segment_ms = segment_ms; sequences = sequences })

-- the mapping of a file's bytes, or why there is none
unfoldable pub mapping_of : List ℕ → Result Mapping Refusal
mapping_of bytes = do
  value ← ok_or (json_value bytes) BadJson
  mapping ← by_rule 1 (object value)
  mapping_of_object mapping
