-- The film that a number is rehearsed with; this project's own.
use Rattle.std.specs.Prelude.{◌≡◌, ℕ, List, [], ◌∷◌, codes}
use Rattle.vod_types.specs.Settled.{Settled}
use Rattle.vod_types.specs.Settings.{default_settings}
use Rattle.vod_gen.specs.Numbered.{numbered_mapping, numbered_tracks, IsMovieOf}
use Rattle.vod_source.specs.Stored.{Files}
use Rattle.origin_model.specs.Requests.{Setup}

abbrev pub rehearsal_files : ℕ → List ℕ → Files
rehearsal_files n movie = (codes "/r/m.mp4", movie) ∷ (codes "/r/m.json", numbered_mapping n) ∷ []

-- a movie of the number, and its mapping
pub record IsFilm (n : ℕ) (files : Files) : Type 0 where
  pub movie : List ℕ
  pub of : IsMovieOf (numbered_tracks n) movie
  pub are : files ≡ rehearsal_files n movie

-- segments of two seconds, and defaults
abbrev pub rehearsal_settings : Settled
rehearsal_settings = record default_settings { segment_ms = 2000 }

abbrev pub rehearsal_setup : Files → Setup
rehearsal_setup files = record { settings = rehearsal_settings; root = codes "/r"; files = files }

-- the media playlist of both tracks
abbrev pub playlist_path : List ℕ
playlist_path = codes "/mapped/hls/m.json/index-f1-v1-a1.m3u8"
