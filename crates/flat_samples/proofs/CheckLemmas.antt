-- The check of a piece in the movie of its file, step by step, which is never refused for a failure of the store.
use Rattle.std.proofs.Common.{◌≡◌, ◌≢◌, ℕ, Bool, true, false, List, ◌⊎◌, inl, inr, Option, Some, None, Result, Ok, Err, refl, sym, ap, ◌∙◌}
use Rattle.std.specs.Prelude.{ok_or}
use Rattle.std.specs.Result.{result_map_both}
use Rattle.vod_types.specs.declared.tracks.Asked.{Asked}
use Rattle.vod_types.specs.declared.tracks.Kind.{Kind}
use Rattle.vod_types.specs.declared.tracks.Kind.TheVariants.{Video, Audio}
use Rattle.vod_types.specs.declared.tracks.TrackName.{TrackName}
use Rattle.vod_types.specs.declared.refusal.Refusal.{Refusal}
use Rattle.vod_types.specs.declared.refusal.Refusal.TheVariants as refusals
use Rattle.vod_types.specs.declared.refusal.Refusal.TheVariants.{NoTrack, StoreFailed}
use Rattle.vod_types.specs.Results.{◌>>=◌}
use Rattle.vod_types.specs.Tracks.{exposed_track}
use Rattle.mp4_model.specs.declared.TrackFault.{TrackFault}
use Rattle.mp4_model.specs.declared.TrackFault.TheVariants as faults
use Rattle.mp4_model.specs.Edits.{Edit, no_edit, edit_view}
use Rattle.mp4_model.specs.Movie.{Movie}
use Rattle.mp4_model.specs.GoodTracks.{GoodTrack, track_view, track_fault_in_file}
use Rattle.clip_model.specs.declared.Piece.{Piece}
use Rattle.vod_source.specs.Stored.{Files}
use Rattle.origin_model.specs.Loaded.{CheckedPiece, asked_edit, asked_track, checked, file_has, loaded, refusal_of_track, shown_edit, shown_track, track_of_kind}
use Rattle.origin_model.specs.Writable.{IsSoundPiece}
use Rattle.origin_model.proofs.SoundPieces.{checked_in_sound}
use Rattle.flat_samples.specs.Checks.{checked_in}
use Rattle.flat_samples.specs.Shown.{edit_in_file, view_in_file}
use Rattle.vod_source.proofs.CallLemmas.{NotFailed, not_failed-found, not_failed-step}

module _ (piece : Piece) (m : Movie) where
  -- ---- the track that is shown

  module _ (asked : TrackName) where
    abbrev refused : TrackFault → Refusal
    refused fault = refusal_of_track piece.name asked fault

    shown-none : exposed_track (file_has m) piece.tracks asked ≡ None → shown_track piece m asked ≡ Err (refused faults.Absent)
    unfolding shown_track
    shown-none e = rw e refl

    shown-by : (track : TrackName) → exposed_track (file_has m) piece.tracks asked ≡ Some track → shown_track piece m asked ≡ result_map_both (λ (t : GoodTrack). t) refused (view_in_file m track)
    unfolding shown_track view_in_file
    shown-by track e = rw e (by_view (track_view m.tracks track))
      where
        by_view : (r : Result GoodTrack TrackFault) →
            result_map_both (λ (t : GoodTrack). t) (λ (fault : TrackFault). refused (track_fault_in_file m.place.at fault)) r
            ≡ result_map_both (λ (t : GoodTrack). t) refused (result_map_both (λ (t : GoodTrack). t) (track_fault_in_file m.place.at) r)
        by_view (Ok t) = refl
        by_view (Err fault) = refl

    pub shown-good : (track : TrackName) (g : GoodTrack) → exposed_track (file_has m) piece.tracks asked ≡ Some track → view_in_file m track ≡ Ok g → shown_track piece m asked ≡ Ok g
    shown-good track g e view = shown-by track e ∙ ap (result_map_both (λ (t : GoodTrack). t) refused) view

    pub shown-faulty : (track : TrackName) (fault : TrackFault) (r : Refusal) → exposed_track (file_has m) piece.tracks asked ≡ Some track → view_in_file m track ≡ Err fault
        → (r ≡ refusals.NoMemory) ⊎ (r ≡ refused fault) → r ≢ refusals.NoMemory → shown_track piece m asked ≡ Err r
    shown-faulty track fault r e view (inl none) memory = absurd (memory none)
    shown-faulty track fault r e view (inr is) memory = shown-by track e ∙ ap (result_map_both (λ (t : GoodTrack). t) refused) view ∙ ap (λ (x : Refusal). Err x) (sym is)

    pub shown-absent : (r : Refusal) → exposed_track (file_has m) piece.tracks asked ≡ None → (r ≡ refusals.NoMemory) ⊎ (r ≡ refused faults.Absent) → r ≢ refusals.NoMemory → shown_track piece m asked ≡ Err r
    shown-absent r e (inl none) memory = absurd (memory none)
    shown-absent r e (inr is) memory = shown-none e ∙ ap (λ (x : Refusal). Err x) (sym is)

    -- its edit
    edit-none : exposed_track (file_has m) piece.tracks asked ≡ None → shown_edit piece m asked ≡ Err (refused faults.Absent)
    unfolding shown_edit
    edit-none e = rw e refl

    edit-by : (track : TrackName) → exposed_track (file_has m) piece.tracks asked ≡ Some track → shown_edit piece m asked ≡ result_map_both (λ (edit : Edit). edit) refused (edit_in_file m track)
    unfolding shown_edit edit_in_file
    edit-by track e = rw e (by_edit (edit_view m.moov m.tracks track))
      where
        by_edit : (r : Result Edit TrackFault) →
            result_map_both (λ (edit : Edit). edit) (λ (fault : TrackFault). refused (track_fault_in_file m.place.at fault)) r
            ≡ result_map_both (λ (edit : Edit). edit) refused (result_map_both (λ (edit : Edit). edit) (track_fault_in_file m.place.at) r)
        by_edit (Ok edit) = refl
        by_edit (Err fault) = refl

    pub edit-good : (track : TrackName) (edit : Edit) → exposed_track (file_has m) piece.tracks asked ≡ Some track → Ok edit ≡ edit_in_file m track → shown_edit piece m asked ≡ Ok edit
    edit-good track edit e is = edit-by track e ∙ ap (result_map_both (λ (edit : Edit). edit) refused) (sym is)

    pub edit-faulty : (track : TrackName) (fault : TrackFault) (r : Refusal) → exposed_track (file_has m) piece.tracks asked ≡ Some track → Err fault ≡ edit_in_file m track
        → (r ≡ refusals.NoMemory) ⊎ (r ≡ refused fault) → r ≢ refusals.NoMemory → shown_edit piece m asked ≡ Err r
    edit-faulty track fault r e found (inl none) memory = absurd (memory none)
    edit-faulty track fault r e found (inr is) memory = edit-by track e ∙ ap (result_map_both (λ (edit : Edit). edit) refused) (sym found) ∙ ap (λ (x : Refusal). Err x) (sym is)

    pub edit-absent : (r : Refusal) → exposed_track (file_has m) piece.tracks asked ≡ None → (r ≡ refusals.NoMemory) ⊎ (r ≡ refused faults.Absent) → r ≢ refusals.NoMemory → shown_edit piece m asked ≡ Err r
    edit-absent r e (inl none) memory = absurd (memory none)
    edit-absent r e (inr is) memory = edit-none e ∙ ap (λ (x : Refusal). Err x) (sym is)

  -- ---- the track that is asked

  module _ (kind : Kind) where
    pub asked-none : asked_track piece m kind None ≡ Ok None
    unfolding asked_track
    asked-none = refl

    pub asked-good : (number : ℕ) (g : GoodTrack) → shown_track piece m (track_of_kind kind number) ≡ Ok g → asked_track piece m kind (Some number) ≡ Ok (Some g)
    unfolding asked_track
    asked-good number g e = rw e refl

    pub asked-bad : (number : ℕ) (r : Refusal) → shown_track piece m (track_of_kind kind number) ≡ Err r → asked_track piece m kind (Some number) ≡ Err r
    unfolding asked_track
    asked-bad number r e = rw e refl

    pub asked_edit-ignored : (number : Option ℕ) → asked_edit false piece m kind number ≡ Ok no_edit
    unfolding asked_edit
    asked_edit-ignored number = refl

    pub asked_edit-none : (edits : Bool) → asked_edit edits piece m kind None ≡ Ok no_edit
    unfolding asked_edit
    asked_edit-none true = refl
    asked_edit-none false = refl

    pub asked_edit-shown : (number : ℕ) → asked_edit true piece m kind (Some number) ≡ shown_edit piece m (track_of_kind kind number)
    unfolding asked_edit
    asked_edit-shown number = refl

  -- ---- all of them

  module _ (edits : Bool) (asked : Asked) where
    abbrev asked_video : Result (Option GoodTrack) Refusal
    asked_video = asked_track piece m Video asked.video

    abbrev asked_audio : Result (Option GoodTrack) Refusal
    asked_audio = asked_track piece m Audio asked.audio

    abbrev asked_video_edit : Result Edit Refusal
    asked_video_edit = asked_edit edits piece m Video asked.video

    abbrev asked_audio_edit : Result Edit Refusal
    asked_audio_edit = asked_edit edits piece m Audio asked.audio

    pub checked-ok : (video audio : Option GoodTrack) (video_edit audio_edit : Edit) → asked_video ≡ Ok video → asked_video_edit ≡ Ok video_edit → asked_audio ≡ Ok audio → asked_audio_edit ≡ Ok audio_edit
        → checked_in edits asked piece m ≡ Ok (record { piece = piece; file_size = m.place.file_size; video = video; audio = audio; video_edit = video_edit; audio_edit = audio_edit })
    unfolding checked_in
    checked-ok video audio video_edit audio_edit e f g h = rw (e, f, g, h) refl

    pub checked-no_video : (r : Refusal) → asked_video ≡ Err r → checked_in edits asked piece m ≡ Err r
    unfolding checked_in
    checked-no_video r e = rw e refl

    pub checked-no_video_edit : (video : Option GoodTrack) (r : Refusal) → asked_video ≡ Ok video → asked_video_edit ≡ Err r → checked_in edits asked piece m ≡ Err r
    unfolding checked_in
    checked-no_video_edit video r e f = rw (e, f) refl

    pub checked-no_audio : (video : Option GoodTrack) (video_edit : Edit) (r : Refusal) → asked_video ≡ Ok video → asked_video_edit ≡ Ok video_edit → asked_audio ≡ Err r → checked_in edits asked piece m ≡ Err r
    unfolding checked_in
    checked-no_audio video video_edit r e f g = rw (e, f, g) refl

    pub checked-no_audio_edit : (video audio : Option GoodTrack) (video_edit : Edit) (r : Refusal) → asked_video ≡ Ok video → asked_video_edit ≡ Ok video_edit → asked_audio ≡ Ok audio → asked_audio_edit ≡ Err r
        → checked_in edits asked piece m ≡ Err r
    unfolding checked_in
    checked-no_audio_edit video audio video_edit r e f g h = rw (e, f, g, h) refl

    pub checked-whole : (c : CheckedPiece) → checked_in edits asked piece m ≡ Ok c → IsSoundPiece asked c
    unfolding checked_in
    checked-whole c e = checked_in_sound edits asked piece m c e

-- ---- no track is refused for a failure of the store

track-not_failed : (name : List ℕ) (asked : TrackName) (fault : TrackFault) → refusal_of_track name asked fault ≢ StoreFailed
track-not_failed name asked faults.Absent e = cc
track-not_failed name asked (faults.Box at) e = cc
track-not_failed name asked (faults.Table table) e = cc
track-not_failed name asked (faults.Codec kind) e = cc
track-not_failed name asked faults.TooLong e = cc

shown-not_failed : (name : List ℕ) (asked : TrackName) (placed : TrackFault → TrackFault) (r : Result GoodTrack TrackFault)
    → NotFailed (result_map_both (λ t. t) (λ fault. refusal_of_track name asked (placed fault)) r)
shown-not_failed name asked placed (Ok t) = tt
shown-not_failed name asked placed (Err fault) = track-not_failed name asked (placed fault)

edit-not_failed : (name : List ℕ) (asked : TrackName) (placed : TrackFault → TrackFault) (r : Result Edit TrackFault)
    → NotFailed (result_map_both (λ edit. edit) (λ fault. refusal_of_track name asked (placed fault)) r)
edit-not_failed name asked placed (Ok e) = tt
edit-not_failed name asked placed (Err fault) = track-not_failed name asked (placed fault)

no_track : (name : List ℕ) (asked : TrackName) → NoTrack name asked ≢ StoreFailed
no_track name asked e = cc

shown_track-not_failed : (piece : Piece) (m : Movie) (asked : TrackName) → NotFailed (shown_track piece m asked)
unfolding shown_track
shown_track-not_failed piece m asked =
    not_failed-step (ok_or (exposed_track (file_has m) piece.tracks asked) (NoTrack piece.name asked)) _ (not_failed-found _ _ (no_track piece.name asked))
    (λ track. shown-not_failed piece.name asked (track_fault_in_file m.place.at) (track_view m.tracks track))

asked_track-not_failed : (piece : Piece) (m : Movie) (kind : Kind) (asked : Option ℕ) → NotFailed (asked_track piece m kind asked)
unfolding asked_track
asked_track-not_failed piece m kind None = tt
asked_track-not_failed piece m kind (Some number) =
    not_failed-step (shown_track piece m (track_of_kind kind number)) _ (shown_track-not_failed piece m (track_of_kind kind number)) (λ track. tt)

shown_edit-not_failed : (piece : Piece) (m : Movie) (asked : TrackName) → NotFailed (shown_edit piece m asked)
unfolding shown_edit
shown_edit-not_failed piece m asked =
    not_failed-step (ok_or (exposed_track (file_has m) piece.tracks asked) (NoTrack piece.name asked)) _ (not_failed-found _ _ (no_track piece.name asked))
    (λ track. edit-not_failed piece.name asked (track_fault_in_file m.place.at) (edit_view m.moov m.tracks track))

asked_edit-not_failed : (edits : Bool) (piece : Piece) (m : Movie) (kind : Kind) (asked : Option ℕ) → NotFailed (asked_edit edits piece m kind asked)
unfolding asked_edit
asked_edit-not_failed true piece m kind (Some number) = shown_edit-not_failed piece m (track_of_kind kind number)
asked_edit-not_failed true piece m kind None = tt
asked_edit-not_failed false piece m kind number = tt

pub checked_in-not_failed : (edits : Bool) (asked : Asked) (piece : Piece) (m : Movie) → NotFailed (checked_in edits asked piece m)
unfolding checked_in
checked_in-not_failed edits asked piece m = search (not_failed-step, asked_track-not_failed, asked_edit-not_failed) depth 16

-- ---- a piece is checked in the movie of its file

pub checked-in : (files : Files) (edits : Bool) (asked : Asked) (piece : Piece) → checked files edits asked piece ≡ (loaded files piece.name >>= checked_in edits asked piece)
unfolding checked checked_in
checked-in files edits asked piece = refl

pub not_loaded : {Y : Type 0} (r : Result Movie Refusal) (f : Movie → Result Y Refusal) (e : Refusal) → ◌≡◌ {A = Result (Unit {0}) Refusal} (r >>= λ m. Ok tt) (Err e) → (r >>= f) ≡ Err e
not_loaded (Ok m) f e is = absurd cc
not_loaded (Err d) f e is = cc
