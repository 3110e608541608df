-- The bytes of a movie box that were read, and the metadata that they give; this project's own.
use Rattle.std.specs.Prelude.{ℕ, ◌+◌, ◌≤◌, Bool, true, false, List, length, Option, option_map, option_and_then, Result, Ok, ⊤}
use Rattle.std.specs.Result.{result_map_both}
use Rattle.vod_types.specs.declared.refusal.Refusal.{Refusal}
use Rattle.vod_types.specs.declared.refusal.Refusal.TheVariants as refusals
use Rattle.vod_types.specs.declared.tracks.TrackName.{TrackName}
use Rattle.vod_types.specs.Results.{◌>>=◌}
use Rattle.mp4_model.specs.declared.MoviePlace.{MoviePlace}
use Rattle.mp4_model.specs.declared.TrackFault.{TrackFault}
use Rattle.mp4_model.specs.declared.TrackFault.TheVariants as track_faults
use Rattle.mp4_model.specs.Movie.{Movie, moov_bytes, moov_tracks, result_in_file}
use Rattle.mp4_model.specs.GoodTracks.{good_track}
use Rattle.mp4_model.specs.Tracks.{Track, named_track}
use Rattle.vod_source.specs.Stored.{Files, bytes_of}
use Rattle.mp4_source.specs.Places.{stored_place}
use Rattle.mp4_tracks.specs.declared.movie.MovieFault.{MovieFault}
use Rattle.mp4_tracks.specs.declared.movie.MovieFault.TheVariants as faults
use Rattle.origin_model.specs.Loaded.{refusal_of_file}
use Rattle.vod_meta.specs.declared.indexes.TrackIndex.{TrackIndex}
use Rattle.vod_meta.specs.Kept.{index_of}

-- The bytes of a movie box aren't too many, and lie within the file.
pub record LiesInFile (place : MoviePlace) (moov : List ℕ) : Type 0 where
  pub short : length moov ≤ 33554432
  pub within : place.at + length moov ≤ place.file_size

-- the place and the bytes of the movie box of a file, or the first fault on the way to it
unfoldable pub fetched : Files → List ℕ → Result (MoviePlace × List ℕ) Refusal
fetched files name = stored_place files name >>= λ place. Ok (place, moov_bytes (bytes_of files name) place)

-- the movie of these bytes, or their first fault
unfoldable pub movie_due : List ℕ → MoviePlace → List ℕ → Result Movie Refusal
movie_due name place moov =
    result_map_both (λ tracks. record { place = place; moov = moov; tracks = tracks }) (refusal_of_file name)
    (result_in_file place.at (moov_tracks moov))

-- the refusal for a fault in a movie box at a place
abbrev pub refusal_in : List ℕ → ℕ → MovieFault → Refusal
refusal_in name at (faults.Box place) = refusals.BadBox name (at + place)
refusal_in name at faults.Fragmented = refusals.NoMovie name
refusal_in name at faults.NoMemory = refusals.NoMemory

-- the place of the fault lies in the file
abbrev pub HasPlaceInFile : MoviePlace → MovieFault → Type 0
HasPlaceInFile movie (faults.Box place) = movie.at + place ≤ movie.file_size
HasPlaceInFile movie fault = ⊤

-- the same of a fault of a track
abbrev pub HasTrackPlace : MoviePlace → TrackFault → Type 0
HasTrackPlace movie (track_faults.Box place) = movie.at + place ≤ movie.file_size
HasTrackPlace movie fault = ⊤

-- whether it is a fault of a track that the file has
abbrev pub is_there : TrackFault → Bool
is_there track_faults.Absent = false
is_there fault = true

-- the indexes of the track of a name: none where there is no such track, and within that none where it has a fault
abbrev pub named_index : List Track → TrackName → Option (Option TrackIndex)
named_index tracks name = option_map (λ t. index_of (good_track t.kind t.mdia)) (named_track tracks name)

-- those of a track without a fault
abbrev pub shown_index : List Track → TrackName → Option TrackIndex
shown_index tracks name = option_and_then (λ t. index_of (good_track t.kind t.mdia)) (named_track tracks name)
