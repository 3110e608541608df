-- The tracks of a movie whose metadata are kept, by the places of its file.
use Rattle.std.proofs.Common.{◌≡◌, ℕ, ◌<◌, ◌^◌, true, false, List, [], Option, Some, None, Result, Ok, Err, refl, sym, ap, subst, ◌∙◌, arith}
use Rattle.std.specs.Prelude.{is_some, ok_or, option_map, option_and_then}
use Rattle.std.specs.Result.{result_map_both, result_ok, result_unwrap_or}
use Rattle.vod_types.specs.declared.tracks.TrackName.{TrackName}
use Rattle.vod_types.specs.Results.{◌>>=◌}
use Rattle.mp4_model.specs.declared.MoviePlace.{MoviePlace}
use Rattle.mp4_model.specs.declared.TrackFault.{TrackFault}
use Rattle.mp4_model.specs.declared.TrackFault.TheVariants as faults
use Rattle.mp4_model.specs.Edits as model
use Rattle.mp4_model.specs.Edits.{edit_view}
use Rattle.mp4_model.specs.Fitting.{IsUsable}
use Rattle.mp4_model.specs.Movie.{FileFault, Movie, moov_tracks}
use Rattle.mp4_model.specs.Tracks.{Track, named_track}
use Rattle.mp4_model.specs.GoodTracks.{GoodTrack, good_track, track_view, track_fault_in_file}
use Rattle.mp4_model.proofs.GoodTables.{good_track_keeps}
use Rattle.mp4_model.proofs.ResultsLemmas.{bind_ok}
use Rattle.mp4_model.proofs.VideoLemmas.{timescale-some}
use Rattle.vod_types.proofs.StepLemmas.{ok_or_ok}
use Rattle.mp4_tracks.specs.declared.edit.Edit.{Edit}
use Rattle.mp4_tracks.specs.declared.kept.Tracks.{Tracks}
use Rattle.mp4_tracks.specs.declared.views.TrackView.{TrackView}
use Rattle.mp4_tracks.specs.Edits.{IsEditOf}
use Rattle.mp4_tracks.specs.Made.{IsMadeOf, due_outcomes}
use Rattle.mp4_tracks.specs.Views.{good_of, IsViewOf}
use Rattle.origin_model.specs.Loaded.{file_has}
use Rattle.time_runs.specs.Checkpoints.{checkpoints_of as time_checkpoints}
use Rattle.chunk_runs.specs.Checkpoints.{checkpoints_of as place_checkpoints}
use Rattle.vod_meta.specs.declared.indexes.TrackIndex.{TrackIndex}
use Rattle.vod_meta.specs.Held.{movie_at, tracks_in}
use Rattle.vod_meta.specs.Kept.{index_of}
use Rattle.vod_meta.specs.Read.{is_there, named_index, shown_index, HasTrackPlace, LiesInFile}
use Rattle.vod_meta.specs.Shown.{edit_in_file, view_in_file}
use Rattle.vod_meta.proofs.FaultPlaces.{IsFaultIn, not_there, faulty, view_fault, no_track, in_edit, edit_fault}

-- ---- one track of the bytes of a movie box

module _ (moov : List ℕ) (tracks : Tracks) (made : IsMadeOf moov tracks) (track : TrackName) where
  pub tracks-known : moov_tracks moov ≡ Ok (tracks_in moov)
  unfolding IsMadeOf
  tracks-known =
      let found = bind_ok (moov_tracks moov) (λ ts. Ok (due_outcomes ts)) _ made in
      found.1 ∙ ap (λ (r : Result (List Track) FileFault). Ok (result_unwrap_or r [])) (sym found.1)

  abbrev pub Viewed : Result TrackView TrackFault → Type 0
  Viewed result = (ts : List Track) → moov_tracks moov ≡ Ok ts → IsViewOf (track_view ts track) result

  -- a track that is there
  record Found (g : GoodTrack) : Type 0 where
    it : Track
    named : named_track (tracks_in moov) track ≡ Some it
    good : good_track it.kind it.mdia ≡ Ok g

  found-in : (g : GoodTrack) → track_view (tracks_in moov) track ≡ Ok g → Found g
  unfolding track_view
  found-in g e =
      let found = bind_ok (ok_or (named_track (tracks_in moov) track) faults.Absent) (λ t. good_track t.kind t.mdia) g e in
      record { it = found.0; named = ok_or_ok (named_track (tracks_in moov) track) faults.Absent found.0 found.1; good = found.2 }

  pub good-usable : (g : GoodTrack) → track_view (tracks_in moov) track ≡ Ok g → g.timescale < 2 ^ 32 → IsUsable g
  good-usable g is small =
      let found = found-in g is in
      let limits = good_track_keeps found.it.kind found.it.mdia g found.good in
      record {
        timescale = timescale-some found.it.kind found.it.mdia g found.good;
        small = small;
        none_broken = limits.none_broken;
        short = limits.short;
      }

  pub view-usable : (v : TrackView) → Viewed (Ok v) → v.timescale < 2 ^ 32 → IsUsable (good_of v)
  view-usable v viewed small = good-usable (good_of v) (viewed (tracks_in moov) tracks-known).0 small

  -- ---- its checkpoints

  abbrev index_at : Track → Option TrackIndex
  index_at t = index_of (good_track t.kind t.mdia)

  abbrev pub checkpoints_in : GoodTrack → TrackIndex
  checkpoints_in g = record { times = time_checkpoints g.tables; places = place_checkpoints g.tables }

  pub named-good : (v : TrackView) → Viewed (Ok v) → named_index (tracks_in moov) track ≡ Some (Some (checkpoints_in (good_of v)))
  named-good v viewed =
      let found = found-in (good_of v) (viewed (tracks_in moov) tracks-known).0 in
      ap (option_map index_at) found.named
      ∙ ap (λ (r : Result GoodTrack TrackFault). Some (index_of r)) found.good

  pub named-absent : (fault : TrackFault) → Viewed (Err fault) → is_there fault ≡ false → named_index (tracks_in moov) track ≡ None
  named-absent fault viewed there = elim (view_fault moov (tracks_in moov) track fault tracks-known (viewed (tracks_in moov) tracks-known)) [
    | not_there none is ↦ ap (option_map index_at) none
    | faulty t some within ↦ absurd (never fault within there)
  ]
    where
      never : (f : TrackFault) → IsFaultIn moov f → is_there f ≡ false → ⊥
      never faults.Absent within there = within
      never (faults.Box at) within there = absurd cc
      never (faults.Table table) within there = absurd cc
      never (faults.Codec kind) within there = absurd cc
      never faults.TooLong within there = absurd cc

  pub named-faulty : (fault : TrackFault) → Viewed (Err fault) → is_there fault ≡ true → named_index (tracks_in moov) track ≡ Some None
  unfolding track_view
  named-faulty fault viewed there = by_track (named_track (tracks_in moov) track) refl (viewed (tracks_in moov) tracks-known)
    where
      by_track : (o : Option Track) → named_track (tracks_in moov) track ≡ o → (ok_or o faults.Absent >>= λ t. good_track t.kind t.mdia) ≡ Err fault → named_index (tracks_in moov) track ≡ Some None
      by_track None is e =
          let same : faults.Absent ≡ fault = cc e in
          let not : false ≡ true = ap is_there same ∙ there in
          absurd cc
      by_track (Some t) is e =
          ap (option_map index_at) is
          ∙ ap (λ (r : Result GoodTrack TrackFault). Some (index_of r)) e

-- ---- by the places of the file

module _ (place : MoviePlace) (moov : List ℕ) (tracks : Tracks) (made : IsMadeOf moov tracks) (track : TrackName) where
  abbrev known : moov_tracks moov ≡ Ok (tracks_in moov)
  known = tracks-known moov tracks made track

  pub view-ok : (v : TrackView) → Viewed moov tracks made track (Ok v) → IsViewOf (view_in_file (movie_at place moov) track) (Ok v)
  unfolding view_in_file
  view-ok v viewed =
      let view = viewed (tracks_in moov) known in
      (ap (result_map_both (λ (t : GoodTrack). t) (track_fault_in_file place.at)) view.0, view.1, view.2)

  pub view-err : (fault shown : TrackFault) → Viewed moov tracks made track (Err fault) → shown ≡ track_fault_in_file place.at fault → view_in_file (movie_at place moov) track ≡ Err shown
  unfolding view_in_file
  view-err fault shown viewed is =
      ap (result_map_both (λ (t : GoodTrack). t) (track_fault_in_file place.at)) (viewed (tracks_in moov) known)
      ∙ ap (λ (f : TrackFault). Err f) (sym is)

  -- whether it is there
  pub has-good : (v : TrackView) → Viewed moov tracks made track (Ok v) → file_has (movie_at place moov) track ≡ true
  unfolding track_view
  has-good v viewed = by_track (named_track (tracks_in moov) track) refl (viewed (tracks_in moov) known).0
    where
      by_track : (o : Option Track) → named_track (tracks_in moov) track ≡ o → (ok_or o faults.Absent >>= λ t. good_track t.kind t.mdia) ≡ Ok (good_of v) → is_some (named_track (tracks_in moov) track) ≡ true
      by_track None is e = absurd cc
      by_track (Some t) is e = ap (λ (o : Option Track). is_some o) is

  pub has-faulty : (fault : TrackFault) → Viewed moov tracks made track (Err fault) → file_has (movie_at place moov) track ≡ is_there fault
  has-faulty fault viewed = elim (view_fault moov (tracks_in moov) track fault known (viewed (tracks_in moov) known)) [
    | not_there none is ↦ ap (λ (o : Option Track). is_some o) none ∙ ap is_there (sym is)
    | faulty t some within ↦ ap (λ (o : Option Track). is_some o) some ∙ by_fault fault within
  ]
    where
      by_fault : (f : TrackFault) → IsFaultIn moov f → true ≡ is_there f
      by_fault faults.Absent within = absurd within
      by_fault (faults.Box at) within = refl
      by_fault (faults.Table table) within = refl
      by_fault (faults.Codec kind) within = refl
      by_fault faults.TooLong within = refl

  -- its edit
  abbrev pub Edited : Result Edit TrackFault → Type 0
  Edited result = (ts : List Track) → moov_tracks moov ≡ Ok ts → IsEditOf (edit_view moov ts track) result

  pub edit-ok : (e : Edit) → Edited (Ok e) → IsEditOf (edit_in_file (movie_at place moov) track) (Ok e)
  unfolding edit_in_file
  edit-ok e edited = ap (result_map_both (λ (e : model.Edit). e) (track_fault_in_file place.at)) (edited (tracks_in moov) known)

  pub edit-err : (fault shown : TrackFault) → Edited (Err fault) → shown ≡ track_fault_in_file place.at fault → IsEditOf (edit_in_file (movie_at place moov) track) (Err shown)
  unfolding edit_in_file
  edit-err fault shown edited is =
      ap (λ (f : TrackFault). Err f) is
      ∙ ap (result_map_both (λ (e : model.Edit). e) (track_fault_in_file place.at)) (edited (tracks_in moov) known)

  -- the places of the faults
  module _ (lies : LiesInFile place moov) where
    place-fits : (fault : TrackFault) → IsFaultIn moov fault → HasTrackPlace place fault
    place-fits faults.Absent within = tt
    place-fits (faults.Box at) within = omega (arith, lies.within, within)
    place-fits (faults.Table table) within = tt
    place-fits (faults.Codec kind) within = tt
    place-fits faults.TooLong within = tt

    pub fault-fits : (fault : TrackFault) → Viewed moov tracks made track (Err fault) → HasTrackPlace place fault
    fault-fits fault viewed = elim (view_fault moov (tracks_in moov) track fault known (viewed (tracks_in moov) known)) [
      | not_there none is ↦ subst (HasTrackPlace place) (sym is) tt
      | faulty t some within ↦ place-fits fault within
    ]

    pub edit_fault-fits : (fault : TrackFault) → Edited (Err fault) → HasTrackPlace place fault
    edit_fault-fits fault edited = elim (edit_fault moov (tracks_in moov) track fault known (sym (edited (tracks_in moov) known))) [
      | no_track is ↦ subst (HasTrackPlace place) (sym is) tt
      | in_edit within ↦ place-fits fault within
    ]

-- ---- of a movie, by what its view by the places of the file is

module _ (m : Movie) (track : TrackName) where
  shown-by : (r : Result GoodTrack TrackFault) (g : GoodTrack) → result_map_both (λ (t : GoodTrack). t) (track_fault_in_file m.place.at) r ≡ Ok g → r ≡ Ok g
  shown-by (Ok t) g e = e
  shown-by (Err fault) g e = absurd cc

  pub shown-good : (g : GoodTrack) → view_in_file m track ≡ Ok g → track_view m.tracks track ≡ Ok g
  unfolding view_in_file
  shown-good g e = shown-by (track_view m.tracks track) g e

  faulty-by : (r : Result GoodTrack TrackFault) (fault : TrackFault) → result_map_both (λ (t : GoodTrack). t) (track_fault_in_file m.place.at) r ≡ Err fault → result_ok r ≡ None
  faulty-by (Ok t) fault e = absurd cc
  faulty-by (Err f) fault e = refl

  pub shown-faulty : (fault : TrackFault) → view_in_file m track ≡ Err fault → result_ok (track_view m.tracks track) ≡ None
  unfolding view_in_file
  shown-faulty fault e = faulty-by (track_view m.tracks track) fault e

  -- a track without a fault has checkpoints
  pub shown-checkpoints : (g : GoodTrack) → view_in_file m track ≡ Ok g → shown_index m.tracks track ≡ Some (record { times = time_checkpoints g.tables; places = place_checkpoints g.tables })
  unfolding track_view
  shown-checkpoints g e = by_track (named_track m.tracks track) refl (shown-good g e)
    where
      by_track : (o : Option Track) → named_track m.tracks track ≡ o → (ok_or o faults.Absent >>= λ t. good_track t.kind t.mdia) ≡ Ok g
          → shown_index m.tracks track ≡ Some (record { times = time_checkpoints g.tables; places = place_checkpoints g.tables })
      by_track None is e = absurd cc
      by_track (Some t) is e =
          ap (option_and_then (λ (u : Track). index_of (good_track u.kind u.mdia))) is
          ∙ ap index_of e

  -- and no other has
  shown-index : shown_index m.tracks track ≡ index_of (track_view m.tracks track)
  unfolding track_view
  shown-index = by_track (named_track m.tracks track) refl
    where
      by_track : (o : Option Track) → named_track m.tracks track ≡ o → option_and_then (λ (t : Track). index_of (good_track t.kind t.mdia)) o ≡ index_of (ok_or o faults.Absent >>= λ t. good_track t.kind t.mdia)
      by_track None is = refl
      by_track (Some t) is = refl

  unindexed-by : (r : Result GoodTrack TrackFault) → index_of r ≡ None → result_ok r ≡ None
  unindexed-by (Ok t) e = absurd cc
  unindexed-by (Err fault) e = refl

  pub unindexed : shown_index m.tracks track ≡ None → result_ok (track_view m.tracks track) ≡ None
  unindexed e = unindexed-by (track_view m.tracks track) (sym shown-index ∙ e)

  -- the track that has these checkpoints
  pub record IsIndexed (index : TrackIndex) : Type 0 where
    pub good : GoodTrack
    pub view : track_view m.tracks track ≡ Ok good
    pub checkpoints : index ≡ record { times = time_checkpoints good.tables; places = place_checkpoints good.tables }

  indexed-by : (index : TrackIndex) (r : Result GoodTrack TrackFault) → track_view m.tracks track ≡ r → index_of r ≡ Some index → IsIndexed index
  indexed-by index (Ok t) is e =
      let at : TrackIndex = record { times = time_checkpoints t.tables; places = place_checkpoints t.tables } in
      let same : at ≡ index = cc e in
      record { good = t; view = is; checkpoints = sym same }
  indexed-by index (Err fault) is e = absurd cc

  pub indexed : (index : TrackIndex) → shown_index m.tracks track ≡ Some index → IsIndexed index
  indexed index e = indexed-by index (track_view m.tracks track) refl (sym shown-index ∙ e)
