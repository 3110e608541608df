-- A piece of the movie of a number has no fault.
use Rattle.std.proofs.Common.{◌≡◌, ℕ, ◌+◌, ◌*◌, ◌≤◌, Bool, true, false, cond, List, [], ◌∷◌, ◌++◌, length, map, Some, Ok, refl, sym, ap, subst, ◌∙◌, arith, length-append}
use Rattle.std.specs.Prelude.{codes, slice_get, ok_or}
use Rattle.std.proofs.lemmas.Option.{same_Some}
use Rattle.vod_types.specs.declared.tracks.Asked.{Asked}
use Rattle.vod_types.specs.declared.tracks.Kind.{Kind}
use Rattle.vod_types.specs.declared.tracks.Kind.TheVariants.{Video, Audio}
use Rattle.vod_types.specs.declared.tracks.TrackName.{TrackName}
use Rattle.vod_types.specs.Tracks.{default_tracks, exposed_track, same_kind}
use Rattle.vod_types.proofs.StepLemmas.{bind_ok, ok_or_ok}
use Rattle.media_model.proofs.Boxes.{length-box}
use Rattle.mp4_model.specs.Boxes.{PlacedBox}
use Rattle.mp4_model.specs.Edits.{no_edit, track_edit, edit_view}
use Rattle.mp4_model.specs.Entries.{SampleEntry}
use Rattle.mp4_model.specs.GoodTracks.{GoodTrack, good_track, read_timescale, table_in, track_view}
use Rattle.mp4_model.specs.Movie.{Movie, movie}
use Rattle.mp4_model.specs.Tracks.{Track, named_track, tracks_of_kind}
use Rattle.clip_model.specs.declared.Piece.{Piece}
use Rattle.vod_source.specs.Stored.{file_named}
use Rattle.origin_model.specs.Loaded.{CheckedPiece, asked_edit, asked_track, checked, checked_in, file_has, loaded, shown_edit, shown_track, track_of_kind}
use Rattle.vod_gen.specs.declared.spec.TrackSpec.{TrackSpec}
use Rattle.vod_gen.specs.declared.spec.MovieSpec.{MovieSpec}
use Rattle.vod_gen.specs.Entries.{avc_configuration}
use Rattle.vod_gen.specs.BuiltTracks.{stated_track}
use Rattle.vod_gen.specs.MovieFile.{bytes_if, file_type, kind_bytes, media, media_start, movie_box, movie_file, movie_header, sample_bytes, track_boxes}
use Rattle.vod_gen.specs.Numbered.{TrackLists, lists_of, audio_track, video_track}
use Rattle.vod_gen.proofs.FileRoom.{all_fit, length-file}
use Rattle.vod_gen.proofs.MovieRead.{AllFit, TrakFits, file_read, first_trak, mdia_place, moov-spelled, moov_payload, place_of, read_movie, read_tracks, track_at, trak_payload}
use Rattle.vod_gen.proofs.TrackRead.{track_read}
use Rattle.rehearsal_laws.specs.Films.{rehearsal_files}
use Rattle.rehearsal_laws.proofs.Movies.{video_keeps, video_taken, video_media, video_small, audio_keeps, audio_taken, audio_media, audio_small}
use Rattle.rehearsal_laws.proofs.Room.{movie_room}

-- ---- a track among two

abbrev first_of_kind : Kind → TrackName
first_of_kind kind = track_of_kind kind 1

named_video : (v a : Track) → v.kind ≡ Video → named_track (v ∷ a ∷ []) (first_of_kind Video) ≡ Some v
unfolding named_track tracks_of_kind
named_video v a is-video = rw is-video refl

named_audio : (v a : Track) → v.kind ≡ Video → a.kind ≡ Audio → named_track (v ∷ a ∷ []) (first_of_kind Audio) ≡ Some a
unfolding named_track tracks_of_kind
named_audio v a is-video is-audio = rw (is-video, is-audio) refl

has_timescale : (kind : Kind) (mdia : List PlacedBox) (g : GoodTrack) → good_track kind mdia ≡ Ok g → (timescale : ℕ) × (table_in mdia (codes "mdhd") read_timescale ≡ Some timescale)
unfolding good_track
has_timescale kind mdia g e =
    let read = bind_ok (ok_or (table_in mdia (codes "mdhd") read_timescale) _) _ g e in
    (read.0, ok_or_ok (table_in mdia (codes "mdhd") read_timescale) _ read.0 read.1)

-- what is read of a track that keeps the rules
module _ (tracks : List Track) (moov : List ℕ) (kind : Kind) (at number place : ℕ) (t : TrackSpec) (used : SampleEntry) (named : named_track tracks (first_of_kind kind) ≡ Some (track_at at number place t)) where
  viewed : good_track t.kind (track_at at number place t).mdia ≡ Ok (stated_track place t used) → track_view tracks (first_of_kind kind) ≡ Ok (stated_track place t used)
  unfolding track_view
  viewed good = rw named good

  unedited : good_track t.kind (track_at at number place t).mdia ≡ Ok (stated_track place t used) → edit_view moov tracks (first_of_kind kind) ≡ Ok no_edit
  unfolding edit_view track_edit
  unedited good = let timescale = has_timescale t.kind (track_at at number place t).mdia (stated_track place t used) good in rw (named, timescale.1) refl

-- ---- a piece that asks for it

module _ (piece : Piece) (m : Movie) (kind : Kind) (track : Track) (g : GoodTrack) (default : piece.tracks ≡ default_tracks) (named : named_track m.tracks (first_of_kind kind) ≡ Some track) where
  exposed : exposed_track (file_has m) piece.tracks (first_of_kind kind) ≡ Some (first_of_kind kind)
  exposed = ap (λ tracks. exposed_track (file_has m) tracks (first_of_kind kind)) default ∙ go kind named
    where
      go : (k : Kind) → named_track m.tracks (first_of_kind k) ≡ Some track → exposed_track (file_has m) default_tracks (first_of_kind k) ≡ Some (first_of_kind k)
      go Video e = rw e refl
      go Audio e = rw e refl

  shown : track_view m.tracks (first_of_kind kind) ≡ Ok g → shown_track piece m (first_of_kind kind) ≡ Ok g
  unfolding shown_track
  shown view = rw (exposed, view) refl

  plain : edit_view m.moov m.tracks (first_of_kind kind) ≡ Ok no_edit → shown_edit piece m (first_of_kind kind) ≡ Ok no_edit
  unfolding shown_edit
  plain edit = rw (exposed, edit) refl

-- ---- the movie of a number

abbrev pub both_tracks : Asked
both_tracks = record { video = Some 1; audio = Some 1 }

pub two_of : (ts : List TrackSpec) (x y : TrackLists) → map lists_of ts ≡ x ∷ y ∷ [] → (v : TrackSpec) × (a : TrackSpec) × (ts ≡ v ∷ a ∷ []) × (lists_of v ≡ x) × (lists_of a ≡ y)
two_of [] x y e = absurd (omega (arith, ap length e))
two_of (v ∷ []) x y e = absurd (omega (arith, ap length e))
two_of (v ∷ a ∷ []) x y e = (v, a, refl, same_Some _ _ (ap (λ l. slice_get l 0) e), same_Some _ _ (ap (λ l. slice_get l 1) e))
two_of (v ∷ a ∷ b ∷ ts) x y e = absurd (omega (arith, ap length e))

few_bytes : (kind : Kind) (t : TrackSpec) → length (bytes_if kind t) ≤ length (sample_bytes t)
few_bytes kind t = go (same_kind t.kind kind)
  where
    go : (b : Bool) → length (cond b (sample_bytes t) []) ≤ length (sample_bytes t)
    go true = omega arith
    go false = omega arith

few_of_kind : (kind : Kind) (v a : TrackSpec) → length (kind_bytes kind (v ∷ a ∷ [])) ≤ length (sample_bytes v) + length (sample_bytes a)
unfolding kind_bytes
few_of_kind kind v a = omega (arith, length-append (bytes_if kind v) (bytes_if kind a ++ []), length-append (bytes_if kind a) [], few_bytes kind v, few_bytes kind a)

media_room : (v a : TrackSpec) → length (media (v ∷ a ∷ [])) ≤ 2 * (length (sample_bytes v) + length (sample_bytes a))
unfolding media
media_room v a = omega (arith, length-append (kind_bytes Video (v ∷ a ∷ [])) (kind_bytes Audio (v ∷ a ∷ [])), few_of_kind Video v a, few_of_kind Audio v a)

moov_within : (start : ℕ) (tracks : List TrackSpec) → length (track_boxes start tracks [] tracks) ≤ length (movie_box start tracks)
unfolding movie_box
moov_within start tracks =
    omega (arith, length-box (codes "moov") (movie_header (length tracks) ++ track_boxes start tracks [] tracks) refl, length-append (movie_header (length tracks)) (track_boxes start tracks [] tracks))

type_length : length file_type ≡ 24
unfolding file_type
type_length = refl

module _ (n : ℕ) (spec : MovieSpec) (v a : TrackSpec) (split : spec.tracks.items ≡ v ∷ a ∷ []) (is-video : lists_of v ≡ video_track n) (is-audio : lists_of a ≡ audio_track n) where
  moov_short : (start : ℕ) → length (movie_box start spec.tracks.items) ≤ 2001000
  moov_short start = subst (λ ts. length (movie_box start ts) ≤ 2001000) (sym split) (movie_room start v a (video_small n v is-video) (audio_small n a is-audio))

  media_short : length (media spec.tracks.items) ≤ 20000000
  media_short =
      subst (λ ts. length (media ts) ≤ 20000000) (sym split)
      (let room = media_room v a in let video = video_media n v is-video in let audio = audio_media n a is-audio in omega (arith, room, video, audio))

  start_short : media_start spec.tracks.items ≤ 2002000
  start_short = omega (arith, type_length, moov_short 0)

  fits : AllFit (media_start spec.tracks.items) spec.tracks.items [] spec.tracks.items
  fits =
      all_fit (media_start spec.tracks.items) spec.tracks.items [] spec.tracks.items refl (omega (arith, start_short, media_short))
      (omega (arith, moov_within (media_start spec.tracks.items) spec.tracks.items, moov_short (media_start spec.tracks.items)))

  movie_is : movie (movie_file spec) ≡ Ok (read_movie spec)
  movie_is =
      file_read spec
      (omega (
        arith,
        moov_short (media_start spec.tracks.items),
        ap length (moov-spelled (media_start spec.tracks.items) spec.tracks.items),
        length-box (codes "moov") (moov_payload (media_start spec.tracks.items) spec.tracks.items) refl,
      ))
      (omega (arith, length-file spec, start_short, media_short)) fits

  abbrev video_place : ℕ
  video_place = place_of (media_start spec.tracks.items) spec.tracks.items [] v

  abbrev audio_place : ℕ
  audio_place = place_of (media_start spec.tracks.items) spec.tracks.items (v ∷ []) a

  abbrev video_at : ℕ
  video_at = first_trak spec.tracks.items

  abbrev audio_at : ℕ
  audio_at = first_trak spec.tracks.items + (8 + length (trak_payload 1 (place_of (media_start spec.tracks.items) spec.tracks.items [] v) v))

  video_fits : TrakFits 1 (place_of (media_start spec.tracks.items) spec.tracks.items [] v) v
  video_fits = (subst (AllFit (media_start spec.tracks.items) spec.tracks.items []) split fits).0

  audio_fits : TrakFits 2 (place_of (media_start spec.tracks.items) spec.tracks.items (v ∷ []) a) a
  audio_fits = (subst (AllFit (media_start spec.tracks.items) spec.tracks.items []) split fits).1.0

  two_read : (read_movie spec).tracks ≡ track_at video_at 1 video_place v ∷ track_at audio_at 2 audio_place a ∷ []
  two_read = ap (read_tracks (first_trak spec.tracks.items) (media_start spec.tracks.items) spec.tracks.items []) split

  is_video : v.kind ≡ Video
  is_video = ap (λ l. l.kind) is-video

  is_audio : a.kind ≡ Audio
  is_audio = ap (λ l. l.kind) is-audio

  video_named : named_track (read_movie spec).tracks (first_of_kind Video) ≡ Some (track_at video_at 1 video_place v)
  video_named = ap (λ ts. named_track ts (first_of_kind Video)) two_read ∙ named_video (track_at video_at 1 video_place v) (track_at audio_at 2 audio_place a) is_video

  audio_named : named_track (read_movie spec).tracks (first_of_kind Audio) ≡ Some (track_at audio_at 2 audio_place a)
  audio_named = ap (λ ts. named_track ts (first_of_kind Audio)) two_read ∙ named_audio (track_at video_at 1 video_place v) (track_at audio_at 2 audio_place a) is_video is_audio

  abbrev video_used : SampleEntry
  video_used = record { config = avc_configuration; width = 640; height = 360 }

  abbrev audio_used : SampleEntry
  audio_used = record { config = 17 ∷ 144 ∷ []; width = 0; height = 0 }

  video_good : good_track v.kind (track_at video_at 1 video_place v).mdia ≡ Ok (stated_track video_place v video_used)
  video_good = track_read (mdia_place video_at 1 v + 8) video_place v video_used (video_keeps n v is-video) (video_taken n v is-video) video_fits.track

  audio_good : good_track a.kind (track_at audio_at 2 audio_place a).mdia ≡ Ok (stated_track audio_place a audio_used)
  audio_good = track_read (mdia_place audio_at 2 a + 8) audio_place a audio_used (audio_keeps n a is-audio) (audio_taken n a is-audio) audio_fits.track

  -- a piece of it has both tracks
  piece_in : (piece : Piece) → piece.tracks ≡ default_tracks → (c : CheckedPiece) × (checked_in true both_tracks piece (read_movie spec) ≡ Ok c)
  unfolding asked_track asked_edit
  piece_in piece default =
      let m : Movie = read_movie spec in
      let video = shown piece m Video (track_at video_at 1 video_place v) (stated_track video_place v video_used) default video_named
      (viewed m.tracks m.moov Video video_at 1 video_place v video_used video_named video_good) in
      let audio = shown piece m Audio (track_at audio_at 2 audio_place a) (stated_track audio_place a audio_used) default audio_named
      (viewed m.tracks m.moov Audio audio_at 2 audio_place a audio_used audio_named audio_good) in
      let video_edit = plain piece m Video (track_at video_at 1 video_place v) (stated_track video_place v video_used) default video_named
      (unedited m.tracks m.moov Video video_at 1 video_place v video_used video_named video_good) in
      let audio_edit = plain piece m Audio (track_at audio_at 2 audio_place a) (stated_track audio_place a audio_used) default audio_named
      (unedited m.tracks m.moov Audio audio_at 2 audio_place a audio_used audio_named audio_good) in
      let c : CheckedPiece = record {
        piece = piece;
        file_size = m.place.file_size;
        video = Some (stated_track video_place v video_used);
        audio = Some (stated_track audio_place a audio_used);
        video_edit = no_edit;
        audio_edit = no_edit;
      } in
      (c, rw (video, audio, video_edit, audio_edit) refl)

  movie_loaded : (file : List ℕ) → file ≡ movie_file spec → loaded (rehearsal_files n file) (codes "/r/m.mp4") ≡ Ok (read_movie spec)
  unfolding loaded file_named
  movie_loaded file is = rw (ap movie is ∙ movie_is) refl

  pub piece_checked : (file : List ℕ) → file ≡ movie_file spec → (piece : Piece) → piece.name ≡ codes "/r/m.mp4" → piece.tracks ≡ default_tracks →
      (c : CheckedPiece) × (checked (rehearsal_files n file) true both_tracks piece ≡ Ok c)
  unfolding checked
  piece_checked file is piece name default =
      let c = piece_in piece default in
      (c.0, rw (ap (loaded (rehearsal_files n file)) name ∙ movie_loaded file is) c.1)
