-- The names of codecs by what a track's entry and record say.
use Rattle.std.proofs.Common.{◌≡◌, ℕ, Bool, true, false, List, [], ◌∷◌, ◌++◌, Option, Some, ap, ◌∙◌}
use Rattle.std.specs.Prelude.{codes, flat_map, if◌then◌else◌}
use Rattle.std.specs.Option.{option_map_or}
use Rattle.vod_bytes.specs.Texts.{hex_pair}
use Rattle.mp4_model.specs.Avc.{AvcConfig, avc_codec_name, read_avcc}
use Rattle.mp4_model.specs.Entries.{entry_type, is_hevc_type}
use Rattle.mp4_model.specs.GoodTracks.{GoodTrack}
use Rattle.mp4_model.specs.Hevc.{hevc_codec_name, read_hvcc}
use Rattle.mp4_model.specs.Video.{video_codec_name}

pub avc_name-is : (name : List ℕ) (c : AvcConfig) (o : Option AvcConfig) → Some c ≡ o → name ≡ codes "avc1." ++ flat_map hex_pair (c.profile ∷ c.compat ∷ c.level ∷ []) → name ≡ option_map_or avc_codec_name o []
unfolding avc_codec_name
avc_name-is name c o is e = e ∙ ap (λ (o : Option AvcConfig). option_map_or avc_codec_name o []) is

module _ (t : GoodTrack) (fourcc name : List ℕ) (typed : fourcc ≡ entry_type t.entry) where
  abbrev named_by : Bool → List ℕ
  named_by hevc = if hevc then option_map_or hevc_codec_name (read_hvcc t.config (entry_type t.entry)) [] else option_map_or avc_codec_name (read_avcc t.config) []

  pub hevc-named : true ≡ is_hevc_type fourcc → name ≡ option_map_or hevc_codec_name (read_hvcc t.config fourcc) [] → name ≡ video_codec_name t
  unfolding video_codec_name
  hevc-named hevc e = e ∙ ap (λ (kind : List ℕ). option_map_or hevc_codec_name (read_hvcc t.config kind) []) typed ∙ ap named_by (hevc ∙ ap is_hevc_type typed)

  pub avc-named : false ≡ is_hevc_type fourcc → name ≡ option_map_or avc_codec_name (read_avcc t.config) [] → name ≡ video_codec_name t
  unfolding video_codec_name
  avc-named hevc e = e ∙ ap named_by (hevc ∙ ap is_hevc_type typed)
