-- The tracks of a movie that is held, by the places of its file.
use Rattle.std.proofs.Common.{◌≡◌, ℕ, true, List, [], Option, Some, None, is_some, Result, Ok, Err, refl, sym, ap, subst, ◌∙◌, arith}
use Rattle.std.specs.Prelude.{ok_or}
use Rattle.std.specs.Result.{result_map_both, result_unwrap_or}
use Rattle.vod_types.specs.declared.tracks.TrackName.{TrackName}
use Rattle.vod_types.specs.Results.{◌>>=◌}
use Rattle.mp4_model.specs.declared.MoviePlace.{MoviePlace}
use Rattle.mp4_model.specs.declared.TrackFault.{TrackFault}
use Rattle.mp4_model.specs.declared.TrackFault.TheVariants as faults
use Rattle.mp4_model.specs.Edits as model
use Rattle.mp4_model.specs.Edits.{edit_view}
use Rattle.mp4_model.specs.Movie.{FileFault, moov_tracks}
use Rattle.mp4_model.specs.Tracks.{Track, named_track}
use Rattle.mp4_model.specs.GoodTracks.{GoodTrack, good_track, track_view, track_fault_in_file}
use Rattle.mp4_model.proofs.ResultsLemmas.{bind_ok}
use Rattle.mp4_tracks.specs.declared.edit.Edit.{Edit}
use Rattle.mp4_tracks.specs.declared.kept.Tracks.{Tracks}
use Rattle.mp4_tracks.specs.declared.views.TrackView.{TrackView}
use Rattle.mp4_tracks.specs.Edits.{IsEditOf}
use Rattle.mp4_tracks.specs.Made.{IsMadeOf, due_outcomes}
use Rattle.mp4_tracks.specs.Views.{good_of, IsViewOf}
use Rattle.origin_model.specs.Loaded.{file_has}
use Rattle.flat_samples.specs.Checks.{IsSound}
use Rattle.flat_samples.specs.Held.{IsWholeMovie}
use Rattle.flat_samples.specs.Movies.{movie_at}
use Rattle.flat_samples.specs.Shown.{edit_in_file, is_there, view_in_file, HasTrackPlace}
use Rattle.flat_samples.proofs.FaultPlaces.{IsFaultIn, not_there, faulty, view_fault, no_track, in_edit, edit_fault}
use Rattle.flat_samples.proofs.ViewLemmas.{view_sound}

-- ---- one track

module _ (place : MoviePlace) (moov : List ℕ) (tracks : Tracks) (whole : IsWholeMovie place moov tracks) (track : TrackName) where
  abbrev known : List Track
  known = result_unwrap_or (moov_tracks moov) []

  tracks-known : moov_tracks moov ≡ Ok known
  unfolding IsMadeOf
  tracks-known =
      let found = bind_ok (moov_tracks moov) (λ ts. Ok (due_outcomes ts)) _ whole.made in
      found.1 ∙ ap (λ (r : Result (List Track) FileFault). Ok (result_unwrap_or r [])) (sym found.1)

  abbrev Viewed : Result TrackView TrackFault → Type 0
  Viewed result = (ts : List Track) → moov_tracks moov ≡ Ok ts → IsViewOf (track_view ts track) result

  pub view-ok : (v : TrackView) → Viewed (Ok v) → IsViewOf (view_in_file (movie_at place moov) track) (Ok v)
  unfolding view_in_file
  view-ok v viewed =
      let view = viewed known tracks-known in
      (ap (result_map_both (λ (t : GoodTrack). t) (track_fault_in_file place.at)) view.0, view.1, view.2)

  pub view-err : (fault shown : TrackFault) → Viewed (Err fault) → shown ≡ track_fault_in_file place.at fault → view_in_file (movie_at place moov) track ≡ Err shown
  unfolding view_in_file
  view-err fault shown viewed is =
      ap (result_map_both (λ (t : GoodTrack). t) (track_fault_in_file place.at)) (viewed known tracks-known)
      ∙ ap (λ (f : TrackFault). Err f) (sym is)

  pub view-sound : (v : TrackView) → Viewed (Ok v) → IsSound (good_of v)
  view-sound v viewed = view_sound moov tracks known track (good_of v) whole.made tracks-known whole.lies.short (viewed known tracks-known).0

  place-fits : (fault : TrackFault) → IsFaultIn moov fault → HasTrackPlace place fault
  place-fits faults.Absent within = tt
  place-fits (faults.Box at) within = omega (arith, whole.lies.within, within)
  place-fits (faults.Table table) within = tt
  place-fits (faults.Codec kind) within = tt
  place-fits faults.TooLong within = tt

  pub fault-fits : (fault : TrackFault) → Viewed (Err fault) → HasTrackPlace place fault
  fault-fits fault viewed = elim (view_fault moov known track fault tracks-known (viewed known tracks-known)) [
    | not_there none is ↦ subst (HasTrackPlace place) (sym is) tt
    | faulty t some within ↦ place-fits fault within
  ]

  -- its edit
  abbrev Edited : Result Edit TrackFault → Type 0
  Edited result = (ts : List Track) → moov_tracks moov ≡ Ok ts → IsEditOf (edit_view moov ts track) result

  pub edit-ok : (e : Edit) → Edited (Ok e) → IsEditOf (edit_in_file (movie_at place moov) track) (Ok e)
  unfolding edit_in_file
  edit-ok e edited = ap (result_map_both (λ (e : model.Edit). e) (track_fault_in_file place.at)) (edited known tracks-known)

  pub edit-err : (fault shown : TrackFault) → Edited (Err fault) → shown ≡ track_fault_in_file place.at fault → IsEditOf (edit_in_file (movie_at place moov) track) (Err shown)
  unfolding edit_in_file
  edit-err fault shown edited is =
      ap (λ (f : TrackFault). Err f) is
      ∙ ap (result_map_both (λ (e : model.Edit). e) (track_fault_in_file place.at)) (edited known tracks-known)

  pub edit_fault-fits : (fault : TrackFault) → Edited (Err fault) → HasTrackPlace place fault
  edit_fault-fits fault edited = elim (edit_fault moov known track fault tracks-known (sym (edited known tracks-known))) [
    | no_track is ↦ subst (HasTrackPlace place) (sym is) tt
    | in_edit within ↦ place-fits fault within
  ]

  -- whether it is there
  pub has-good : (v : TrackView) → Viewed (Ok v) → file_has (movie_at place moov) track ≡ true
  unfolding track_view
  has-good v viewed = by_track (named_track known track) refl (viewed known tracks-known).0
    where
      by_track : (o : Option Track) → named_track known track ≡ o → (ok_or o faults.Absent >>= λ t. good_track t.kind t.mdia) ≡ Ok (good_of v) → is_some (named_track known track) ≡ true
      by_track None is e = absurd cc
      by_track (Some t) is e = ap (λ (o : Option Track). is_some o) is

  pub has-faulty : (fault : TrackFault) → Viewed (Err fault) → file_has (movie_at place moov) track ≡ is_there fault
  has-faulty fault viewed = elim (view_fault moov known track fault tracks-known (viewed known tracks-known)) [
    | not_there none is ↦ ap (λ (o : Option Track). is_some o) none ∙ ap is_there (sym is)
    | faulty t some within ↦ ap (λ (o : Option Track). is_some o) some ∙ by_fault fault within
  ]
    where
      by_fault : (f : TrackFault) → IsFaultIn moov f → true ≡ is_there f
      by_fault faults.Absent within = absurd within
      by_fault (faults.Box at) within = refl
      by_fault (faults.Table table) within = refl
      by_fault (faults.Codec kind) within = refl
      by_fault faults.TooLong within = refl
