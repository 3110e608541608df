-- A track of a movie by the places of its file; this project's own.
use Rattle.std.specs.Prelude.{Bool, true, false, ◌&&◌, ◌+◌, ◌≤◌, Result, ⊤}
use Rattle.std.specs.Result.{result_map_both}
use Rattle.vod_types.specs.declared.tracks.Kind.{Kind}
use Rattle.vod_types.specs.declared.tracks.TrackName.{TrackName}
use Rattle.vod_types.specs.Tracks.{same_kind}
use Rattle.mp4_model.specs.declared.TrackFault.{TrackFault}
use Rattle.mp4_model.specs.declared.TrackFault.TheVariants as faults
use Rattle.mp4_model.specs.declared.MoviePlace.{MoviePlace}
use Rattle.mp4_model.specs.Edits.{Edit, edit_view}
use Rattle.mp4_model.specs.Movie.{Movie}
use Rattle.mp4_model.specs.GoodTracks.{GoodTrack, track_view, track_fault_in_file}
use Rattle.origin_model.specs.Loaded.{file_has}

-- the track of a name, or its first fault by the places of the file
unfoldable pub view_in_file : Movie → TrackName → Result GoodTrack TrackFault
view_in_file m track = result_map_both (λ t. t) (track_fault_in_file m.place.at) (track_view m.tracks track)

-- its edit, or the fault of that
unfoldable pub edit_in_file : Movie → TrackName → Result Edit TrackFault
edit_in_file m track = result_map_both (λ e. e) (track_fault_in_file m.place.at) (edit_view m.moov m.tracks track)

-- the place of the fault lies in the file
abbrev pub HasTrackPlace : MoviePlace → TrackFault → Type 0
HasTrackPlace movie (faults.Box place) = movie.at + place ≤ movie.file_size
HasTrackPlace movie fault = ⊤

-- whether it is a fault of a track that the file has
abbrev pub is_there : TrackFault → Bool
is_there faults.Absent = false
is_there fault = true

-- whether it is a track of this kind that the file has
abbrev pub shown_in : Movie → Kind → TrackName → Bool
shown_in m kind track = same_kind track.kind kind && file_has m track
