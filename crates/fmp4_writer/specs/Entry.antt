-- Sample entries and the boxes round them (ISO/IEC 14496-12, 8.2 to 8.8).
use Rattle.std.specs.Prelude.{ℕ, List, ◌++◌, length, codes, Option, Some, None}
use Rattle.vod_types.specs.declared.tracks.Kind.{Kind}
use Rattle.vod_types.specs.declared.tracks.Kind.TheVariants.{Video, Audio}
use Rattle.media_model.specs.Boxes.{box}
use Rattle.media_model.specs.InitSegment.{for_entry, movie_header, track, track_defaults}

-- the bytes of `trak` beside its entry
abbrev pub beside : Kind → ℕ
beside Video = 329
beside Audio = 325

-- the bytes of `trex` of a track whose entry is given
abbrev pub defaults_size : Option (List ℕ) → ℕ
defaults_size None = 0
defaults_size (Some entry) = 32

-- `moov` of the sample entries that are given
unfoldable pub movie : Option (List ℕ) → ℕ → ℕ → Option (List ℕ) → List ℕ
movie video width height audio =
    box (codes "moov") (movie_header ++ for_entry video (track Video width height) ++ for_entry audio (track Audio 0 0)
    ++ box (codes "mvex") (for_entry video (λ entry. track_defaults Video) ++ for_entry audio (λ entry. track_defaults Audio)))
