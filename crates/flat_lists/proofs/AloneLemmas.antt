-- A piece that is checked with several tracks, as if one of them was asked alone.
use Rattle.std.proofs.Common.{◌≡◌, ℕ, Bool, List, [], ◌∷◌, map, Option, Some, None, Result, Ok, sym, ap, ap₂, ◌∙◌}
use Rattle.std.specs.Result.{result_unwrap_or}
use Rattle.vod_types.specs.declared.refusal.Refusal.{Refusal}
use Rattle.vod_types.specs.declared.tracks.Asked.{Asked}
use Rattle.vod_types.specs.declared.tracks.Kind.{Kind}
use Rattle.vod_types.specs.declared.tracks.Kind.TheVariants.{Video, Audio}
use Rattle.vod_types.specs.Results.{◌>>=◌, each_in_turn}
use Rattle.vod_types.proofs.StepLemmas.{bind_ok}
use Rattle.mp4_model.specs.Edits.{no_edit}
use Rattle.mp4_model.specs.Movie.{Movie}
use Rattle.clip_model.specs.declared.Piece.{Piece}
use Rattle.segment_model.specs.Timeline.{SourcePiece}
use Rattle.vod_source.specs.Stored.{Files}
use Rattle.list_model.specs.Names.{first_of_kind}
use Rattle.origin_model.specs.Loaded.{CheckedPiece, asked_edit, asked_track, checked, loaded, unread_piece}
use Rattle.origin_model.specs.Sources.{source_of, source_piece}
use Rattle.flat_samples.specs.Checks.{checked_in}
use Rattle.flat_samples.proofs.CheckLemmas.{asked-none, asked_edit-none, checked-in, checked-ok}
use Rattle.flat_lists.specs.PartTracks.{alone}

-- the asked number of a kind
abbrev pub number_of : Kind → Asked → Option ℕ
number_of Video asked = asked.video
number_of Audio asked = asked.audio

in_alone : (kind : Kind) (edits : Bool) (asked : Asked) (piece : Piece) (m : Movie) (c : CheckedPiece) → number_of kind asked ≡ Some 1 → checked_in edits asked piece m ≡ Ok c → checked_in edits (first_of_kind kind) piece m ≡ Ok (alone kind c)
unfolding checked_in
in_alone Video edits asked piece m c one e =
    let video = bind_ok (asked_track piece m Video asked.video) _ c e in
    let video_edit = bind_ok (asked_edit edits piece m Video asked.video) _ c video.2 in
    let audio = bind_ok (asked_track piece m Audio asked.audio) _ c video_edit.2 in
    let audio_edit = bind_ok (asked_edit edits piece m Audio asked.audio) _ c audio.2 in
    let made : CheckedPiece = record { piece = piece; file_size = m.place.file_size; video = video.0; audio = audio.0; video_edit = video_edit.0; audio_edit = audio_edit.0 } in
    let same : made ≡ c = (let h = audio_edit.2 in cc) in
    checked-ok piece m edits (first_of_kind Video) video.0 None video_edit.0 no_edit (sym (ap (asked_track piece m Video) one) ∙ video.1) (sym (ap (asked_edit edits piece m Video) one) ∙ video_edit.1)
    (asked-none piece m Audio) (asked_edit-none piece m Audio edits)
    ∙ ap (λ (c : CheckedPiece). Ok (alone Video c)) same
in_alone Audio edits asked piece m c one e =
    let video = bind_ok (asked_track piece m Video asked.video) _ c e in
    let video_edit = bind_ok (asked_edit edits piece m Video asked.video) _ c video.2 in
    let audio = bind_ok (asked_track piece m Audio asked.audio) _ c video_edit.2 in
    let audio_edit = bind_ok (asked_edit edits piece m Audio asked.audio) _ c audio.2 in
    let made : CheckedPiece = record { piece = piece; file_size = m.place.file_size; video = video.0; audio = audio.0; video_edit = video_edit.0; audio_edit = audio_edit.0 } in
    let same : made ≡ c = (let h = audio_edit.2 in cc) in
    checked-ok piece m edits (first_of_kind Audio) None audio.0 no_edit audio_edit.0 (asked-none piece m Video) (asked_edit-none piece m Video edits)
    (sym (ap (asked_track piece m Audio) one) ∙ audio.1) (sym (ap (asked_edit edits piece m Audio) one) ∙ audio_edit.1)
    ∙ ap (λ (c : CheckedPiece). Ok (alone Audio c)) same

module _ (files : Files) (edits : Bool) (kind : Kind) (asked : Asked) (one : number_of kind asked ≡ Some 1) where
  pub checked_alone : (piece : Piece) (c : CheckedPiece) → checked files edits asked piece ≡ Ok c → checked files edits (first_of_kind kind) piece ≡ Ok (alone kind c)
  checked_alone piece c e =
      let movie = bind_ok (loaded files piece.name) (checked_in edits asked piece) c (sym (checked-in files edits asked piece) ∙ e) in
      checked-in files edits (first_of_kind kind) piece ∙ ap (λ (r : Result Movie Refusal). r >>= checked_in edits (first_of_kind kind) piece) movie.1 ∙ in_alone kind edits asked piece movie.0 c one movie.2

  pub source_alone : (piece : Piece) (c : CheckedPiece) → checked files edits asked piece ≡ Ok c → source_of files edits (first_of_kind kind) piece ≡ source_piece (alone kind c)
  source_alone piece c e = ap (λ (r : Result CheckedPiece Refusal). source_piece (result_unwrap_or r (unread_piece piece))) (checked_alone piece c e)

  pub sources_alone : (pieces : List Piece) (cs : List CheckedPiece) → each_in_turn (checked files edits asked) pieces ≡ Ok cs → map (source_of files edits (first_of_kind kind)) pieces ≡ map (λ (c : CheckedPiece). source_piece (alone kind c)) cs
  sources_alone [] cs e = let none : [] ≡ cs = cc in ap (map (λ (c : CheckedPiece). source_piece (alone kind c))) none
  sources_alone (p ∷ ps) cs e =
      let first = bind_ok (checked files edits asked p) _ cs e in
      let rest = bind_ok (each_in_turn (checked files edits asked) ps) _ cs first.2 in
      let same : first.0 ∷ rest.0 ≡ cs = (let h = rest.2 in cc) in
      ap₂ (λ (s : SourcePiece) (ss : List SourcePiece). s ∷ ss) (source_alone p first.0 first.1) (sources_alone ps rest.0 rest.1) ∙ ap (map (λ (c : CheckedPiece). source_piece (alone kind c))) same
