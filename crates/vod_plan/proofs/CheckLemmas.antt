-- The check of a piece in the movie of its file, step by step.
use Rattle.std.proofs.Common.{◌≡◌, ◌≢◌, ℕ, Bool, true, false, ◌⊎◌, inl, inr, Option, Some, None, Result, Ok, Err, refl, sym, ap, ◌∙◌}
use Rattle.std.specs.Result.{result_map_both}
use Rattle.vod_types.specs.declared.tracks.Asked.{Asked}
use Rattle.vod_types.specs.declared.tracks.Kind.{Kind}
use Rattle.vod_types.specs.declared.tracks.Kind.TheVariants.{Video, Audio}
use Rattle.vod_types.specs.declared.tracks.TrackName.{TrackName}
use Rattle.vod_types.specs.declared.refusal.Refusal.{Refusal}
use Rattle.vod_types.specs.declared.refusal.Refusal.TheVariants as refusals
use Rattle.vod_types.specs.declared.refusal.Refusal.TheVariants.{NoTrack, StoreFailed}
use Rattle.vod_types.specs.Results.{◌>>=◌}
use Rattle.vod_types.specs.Tracks.{exposed_track}
use Rattle.mp4_model.specs.declared.TrackFault.{TrackFault}
use Rattle.mp4_model.specs.declared.TrackFault.TheVariants as faults
use Rattle.mp4_model.specs.Edits.{Edit, no_edit, edit_view}
use Rattle.mp4_model.specs.Movie.{Movie}
use Rattle.mp4_model.specs.GoodTracks.{GoodTrack, track_view, track_fault_in_file}
use Rattle.clip_model.specs.declared.Piece.{Piece}
use Rattle.origin_model.specs.Loaded.{CheckedPiece, asked_edit, asked_track, file_has, refusal_of_track, shown_edit, shown_track, track_of_kind}
use Rattle.vod_meta.specs.Shown.{edit_in_file, view_in_file}
use Rattle.vod_plan.specs.Tracks.{asked_pair, checked_in}

module _ (piece : Piece) (m : Movie) where
  -- ---- the track that is shown

  module _ (asked : TrackName) where
    abbrev refused : TrackFault → Refusal
    refused fault = refusal_of_track piece.name asked fault

    shown-none : exposed_track (file_has m) piece.tracks asked ≡ None → shown_track piece m asked ≡ Err (refused faults.Absent)
    unfolding shown_track
    shown-none e = rw e refl

    shown-by : (track : TrackName) → exposed_track (file_has m) piece.tracks asked ≡ Some track → shown_track piece m asked ≡ result_map_both (λ (t : GoodTrack). t) refused (view_in_file m track)
    unfolding shown_track view_in_file
    shown-by track e = rw e (by_view (track_view m.tracks track))
      where
        by_view : (r : Result GoodTrack TrackFault) →
            result_map_both (λ (t : GoodTrack). t) (λ (fault : TrackFault). refused (track_fault_in_file m.place.at fault)) r
            ≡ result_map_both (λ (t : GoodTrack). t) refused (result_map_both (λ (t : GoodTrack). t) (track_fault_in_file m.place.at) r)
        by_view (Ok t) = refl
        by_view (Err fault) = refl

    pub shown-good : (track : TrackName) (g : GoodTrack) → exposed_track (file_has m) piece.tracks asked ≡ Some track → view_in_file m track ≡ Ok g → shown_track piece m asked ≡ Ok g
    shown-good track g e view = shown-by track e ∙ ap (result_map_both (λ (t : GoodTrack). t) refused) view

    pub shown-faulty : (track : TrackName) (fault : TrackFault) (r : Refusal) → exposed_track (file_has m) piece.tracks asked ≡ Some track → view_in_file m track ≡ Err fault
        → (r ≡ refusals.NoMemory) ⊎ (r ≡ refused fault) → r ≢ refusals.NoMemory → shown_track piece m asked ≡ Err r
    shown-faulty track fault r e view (inl none) memory = absurd (memory none)
    shown-faulty track fault r e view (inr is) memory = shown-by track e ∙ ap (result_map_both (λ (t : GoodTrack). t) refused) view ∙ ap (λ (x : Refusal). Err x) (sym is)

    pub shown-absent : (r : Refusal) → exposed_track (file_has m) piece.tracks asked ≡ None → (r ≡ refusals.NoMemory) ⊎ (r ≡ refused faults.Absent) → r ≢ refusals.NoMemory → shown_track piece m asked ≡ Err r
    shown-absent r e (inl none) memory = absurd (memory none)
    shown-absent r e (inr is) memory = shown-none e ∙ ap (λ (x : Refusal). Err x) (sym is)

    -- its edit
    edit-none : exposed_track (file_has m) piece.tracks asked ≡ None → shown_edit piece m asked ≡ Err (refused faults.Absent)
    unfolding shown_edit
    edit-none e = rw e refl

    edit-by : (track : TrackName) → exposed_track (file_has m) piece.tracks asked ≡ Some track → shown_edit piece m asked ≡ result_map_both (λ (edit : Edit). edit) refused (edit_in_file m track)
    unfolding shown_edit edit_in_file
    edit-by track e = rw e (by_edit (edit_view m.moov m.tracks track))
      where
        by_edit : (r : Result Edit TrackFault) →
            result_map_both (λ (edit : Edit). edit) (λ (fault : TrackFault). refused (track_fault_in_file m.place.at fault)) r
            ≡ result_map_both (λ (edit : Edit). edit) refused (result_map_both (λ (edit : Edit). edit) (track_fault_in_file m.place.at) r)
        by_edit (Ok edit) = refl
        by_edit (Err fault) = refl

    pub edit-good : (track : TrackName) (edit : Edit) → exposed_track (file_has m) piece.tracks asked ≡ Some track → Ok edit ≡ edit_in_file m track → shown_edit piece m asked ≡ Ok edit
    edit-good track edit e is = edit-by track e ∙ ap (result_map_both (λ (edit : Edit). edit) refused) (sym is)

    pub edit-faulty : (track : TrackName) (fault : TrackFault) (r : Refusal) → exposed_track (file_has m) piece.tracks asked ≡ Some track → Err fault ≡ edit_in_file m track
        → (r ≡ refusals.NoMemory) ⊎ (r ≡ refused fault) → r ≢ refusals.NoMemory → shown_edit piece m asked ≡ Err r
    edit-faulty track fault r e found (inl none) memory = absurd (memory none)
    edit-faulty track fault r e found (inr is) memory = edit-by track e ∙ ap (result_map_both (λ (edit : Edit). edit) refused) (sym found) ∙ ap (λ (x : Refusal). Err x) (sym is)

    pub edit-absent : (r : Refusal) → exposed_track (file_has m) piece.tracks asked ≡ None → (r ≡ refusals.NoMemory) ⊎ (r ≡ refused faults.Absent) → r ≢ refusals.NoMemory → shown_edit piece m asked ≡ Err r
    edit-absent r e (inl none) memory = absurd (memory none)
    edit-absent r e (inr is) memory = edit-none e ∙ ap (λ (x : Refusal). Err x) (sym is)

  -- ---- the track that is asked

  module _ (kind : Kind) where
    pub asked-none : asked_track piece m kind None ≡ Ok None
    unfolding asked_track
    asked-none = refl

    pub asked-good : (number : ℕ) (g : GoodTrack) → shown_track piece m (track_of_kind kind number) ≡ Ok g → asked_track piece m kind (Some number) ≡ Ok (Some g)
    unfolding asked_track
    asked-good number g e = rw e refl

    pub asked-bad : (number : ℕ) (r : Refusal) → shown_track piece m (track_of_kind kind number) ≡ Err r → asked_track piece m kind (Some number) ≡ Err r
    unfolding asked_track
    asked-bad number r e = rw e refl

    pub asked_edit-ignored : (number : Option ℕ) → asked_edit false piece m kind number ≡ Ok no_edit
    unfolding asked_edit
    asked_edit-ignored number = refl

    pub asked_edit-none : (edits : Bool) → asked_edit edits piece m kind None ≡ Ok no_edit
    unfolding asked_edit
    asked_edit-none true = refl
    asked_edit-none false = refl

    pub asked_edit-shown : (number : ℕ) → asked_edit true piece m kind (Some number) ≡ shown_edit piece m (track_of_kind kind number)
    unfolding asked_edit
    asked_edit-shown number = refl

  -- ---- the track of a kind with its edit

  module _ (edits : Bool) (kind : Kind) where
    pub pair-none : asked_pair edits piece m kind None ≡ Ok (None, no_edit)
    unfolding asked_pair
    pair-none = rw (asked-none kind, asked_edit-none kind edits) refl

    pub pair-ok : (number : ℕ) (g : GoodTrack) (edit : Edit) → shown_track piece m (track_of_kind kind number) ≡ Ok g → asked_edit edits piece m kind (Some number) ≡ Ok edit → asked_pair edits piece m kind (Some number) ≡ Ok (Some g, edit)
    unfolding asked_pair
    pair-ok number g edit e f = rw (asked-good kind number g e, f) refl

    pub pair-no_track : (number : ℕ) (r : Refusal) → shown_track piece m (track_of_kind kind number) ≡ Err r → asked_pair edits piece m kind (Some number) ≡ Err r
    unfolding asked_pair
    pair-no_track number r e = rw (asked-bad kind number r e) refl

    pub pair-no_edit : (number : ℕ) (g : GoodTrack) (r : Refusal) → shown_track piece m (track_of_kind kind number) ≡ Ok g → asked_edit edits piece m kind (Some number) ≡ Err r → asked_pair edits piece m kind (Some number) ≡ Err r
    unfolding asked_pair
    pair-no_edit number g r e f = rw (asked-good kind number g e, f) refl

  -- ---- all of them

  module _ (edits : Bool) (asked : Asked) where
    abbrev with_audio : Option GoodTrack × Edit → Option GoodTrack × Edit → Result CheckedPiece Refusal
    with_audio v a = Ok (record { piece = piece; file_size = m.place.file_size; video = v.0; audio = a.0; video_edit = v.1; audio_edit = a.1 })

    checked-by : checked_in edits asked piece m ≡ (asked_pair edits piece m Video asked.video >>= λ v. asked_pair edits piece m Audio asked.audio >>= λ a. with_audio v a)
    unfolding checked_in asked_pair
    checked-by = go (asked_track piece m Video asked.video) (asked_edit edits piece m Video asked.video)
      where
        audio : (v : Option GoodTrack) (e : Edit) (t : Result (Option GoodTrack) Refusal) (d : Result Edit Refusal) →
            (t >>= λ x. d >>= λ y. Ok (record { piece = piece; file_size = m.place.file_size; video = v; audio = x; video_edit = e; audio_edit = y }))
            ≡ ((t >>= λ x. d >>= λ y. Ok (x, y)) >>= λ a. with_audio (v, e) a)
        audio v e (Err r) d = refl
        audio v e (Ok x) (Err r) = refl
        audio v e (Ok x) (Ok y) = refl

        go : (t : Result (Option GoodTrack) Refusal) (d : Result Edit Refusal) →
            (t >>= λ v. d >>= λ e. asked_track piece m Audio asked.audio >>= λ x. asked_edit edits piece m Audio asked.audio >>= λ y.
            Ok (record { piece = piece; file_size = m.place.file_size; video = v; audio = x; video_edit = e; audio_edit = y }))
            ≡ ((t >>= λ v. d >>= λ e. Ok (v, e)) >>= λ v. (asked_track piece m Audio asked.audio >>= λ x. asked_edit edits piece m Audio asked.audio >>= λ y. Ok (x, y)) >>= λ a. with_audio v a)
        go (Err r) d = refl
        go (Ok v) (Err r) = refl
        go (Ok v) (Ok e) = audio v e (asked_track piece m Audio asked.audio) (asked_edit edits piece m Audio asked.audio)

    pub checked-ok : (v a : Option GoodTrack × Edit) → asked_pair edits piece m Video asked.video ≡ Ok v → asked_pair edits piece m Audio asked.audio ≡ Ok a → checked_in edits asked piece m ≡ with_audio v a
    checked-ok v a e f = checked-by ∙ rw (e, f) refl

    pub checked-no_video : (r : Refusal) → asked_pair edits piece m Video asked.video ≡ Err r → checked_in edits asked piece m ≡ Err r
    checked-no_video r e = checked-by ∙ rw e refl

    pub checked-no_audio : (v : Option GoodTrack × Edit) (r : Refusal) → asked_pair edits piece m Video asked.video ≡ Ok v → asked_pair edits piece m Audio asked.audio ≡ Err r → checked_in edits asked piece m ≡ Err r
    checked-no_audio v r e f = checked-by ∙ rw (e, f) refl
