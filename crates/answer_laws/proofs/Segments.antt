-- A piece, its tracks and the rows of segments are refused as a path may be.
use Rattle.std.proofs.Common.{ℕ, Bool, true, false, List, [], ◌∷◌, Option, Some, None}
use Rattle.vod_types.specs.declared.segments.Form.{Form}
use Rattle.vod_types.specs.declared.segments.Form.TheVariants.{Ts, Fmp4}
use Rattle.vod_types.specs.declared.tracks.Asked.{Asked}
use Rattle.vod_types.specs.declared.tracks.Kind.{Kind}
use Rattle.vod_types.specs.declared.tracks.TrackName.{TrackName}
use Rattle.mp4_model.specs.declared.TrackFault.{TrackFault}
use Rattle.mp4_model.specs.declared.TrackFault.TheVariants as faults
use Rattle.mp4_model.specs.Movie.{FileFault, BadBox, NoMovie, MovieTooLong, Movie}
use Rattle.clip_model.specs.declared.Piece.{Piece}
use Rattle.clip_model.specs.Timeline.{Timeline}
use Rattle.segment_model.specs.Timeline.{TrackRows}
use Rattle.media_model.specs.WritingOrder.{TrackRow}
use Rattle.vod_source.specs.Stored.{Files}
use Rattle.origin_model.specs.Iframes.{checked_iframe, planned_iframe, planned_iframes}
use Rattle.origin_model.specs.Loaded.{CheckedPiece, asked_edit, asked_track, checked, checked_in, loaded, refusal_of_file, refusal_of_track, shown_edit, shown_track}
use Rattle.origin_model.specs.Plans.{Cutting, all_pieces, all_pieces_by, few_cells, located_cell, planned_rows, planned_segment, segment_pieces, segment_pieces_by}
use Rattle.origin_model.specs.Samples.{checked_rows, front_fault, mixed_codecs, sample_fault}
use Rattle.answer_laws.specs.Refusals.{IsPathRefusal}
use Rattle.answer_laws.proofs.Steps.{May, MayFail, then_may, after_may, ok_or_may, unless_may, each_may, both_may, some_may, or_may, map_may, first_may}

-- ---- pieces

pub of_file : (name : List ℕ) (fault : FileFault) → IsPathRefusal (refusal_of_file name fault)
of_file name (BadBox at) = tt
of_file name NoMovie = tt
of_file name (MovieTooLong size) = tt

of_track : (name : List ℕ) (asked : TrackName) (fault : TrackFault) → IsPathRefusal (refusal_of_track name asked fault)
of_track name asked faults.Absent = tt
of_track name asked (faults.Box at) = tt
of_track name asked (faults.Table table) = tt
of_track name asked (faults.Codec kind) = tt
of_track name asked faults.TooLong = tt

shown_track_may : (piece : Piece) (m : Movie) (asked : TrackName) → May (shown_track piece m asked)
unfolding shown_track
shown_track_may piece m asked = search (then_may, ok_or_may, both_may, of_track)

shown_edit_may : (piece : Piece) (m : Movie) (asked : TrackName) → May (shown_edit piece m asked)
unfolding shown_edit
shown_edit_may piece m asked = search (then_may, ok_or_may, both_may, of_track)

pub track_may : (piece : Piece) (m : Movie) (kind : Kind) (number : Option ℕ) → May (asked_track piece m kind number)
unfolding asked_track
track_may piece m kind None = tt
track_may piece m kind (Some number) = then_may _ _ (shown_track_may piece m _) (λ track. tt)

pub edit_may : (edits : Bool) (piece : Piece) (m : Movie) (kind : Kind) (number : Option ℕ) → May (asked_edit edits piece m kind number)
unfolding asked_edit
edit_may true piece m kind (Some number) = shown_edit_may piece m _
edit_may true piece m kind None = tt
edit_may false piece m kind number = tt

pub checked_in_may : (edits : Bool) (asked : Asked) (piece : Piece) (m : Movie) → May (checked_in edits asked piece m)
checked_in_may edits asked piece m =
    then_may _ _ (track_may piece m _ asked.video) (λ video. then_may _ _ (edit_may edits piece m _ asked.video) (λ video_edit.
    then_may _ _ (track_may piece m _ asked.audio) (λ audio. then_may _ _ (edit_may edits piece m _ asked.audio) (λ audio_edit. tt))))

pub loaded_may : (files : Files) (name : List ℕ) → May (loaded files name)
unfolding loaded
loaded_may files name = search (then_may, ok_or_may, both_may, of_file)

pub checked_may : (files : Files) (edits : Bool) (asked : Asked) (piece : Piece) → May (checked files edits asked piece)
unfolding checked
checked_may files edits asked piece = then_may _ _ (loaded_may files piece.name) (checked_in_may edits asked piece)

-- ---- the rows of a segment

mixed_may : (form : Form) (pieces : List CheckedPiece) → MayFail (mixed_codecs form pieces)
unfolding mixed_codecs
mixed_may Ts [] = tt
mixed_may Ts (first ∷ pieces) = search map_may
mixed_may Fmp4 pieces = tt

front_may : (number : ℕ) (form : Form) (pieces : List CheckedPiece) (rows : TrackRows) → MayFail (front_fault number form pieces rows)
unfolding front_fault
front_may number form pieces rows = search (or_may, some_may, mixed_may, map_may)

pub sample_may : (form : Form) (pieces : List CheckedPiece) (r : TrackRow) → MayFail (sample_fault form pieces r)
unfolding sample_fault
sample_may form pieces r = search (or_may, some_may)

pub rows_may : (number : ℕ) (form : Form) (asked : Asked) (pieces : List CheckedPiece) (rows : TrackRows) → May (checked_rows number form asked pieces rows)
unfolding checked_rows
rows_may number form asked pieces rows = search (after_may, unless_may, front_may, first_may, sample_may, some_may) depth 9

pub iframe_may : (number index : ℕ) (asked : Asked) (pieces : List CheckedPiece) (rows : TrackRows) → May (checked_iframe number index asked pieces rows)
unfolding checked_iframe
iframe_may number index asked pieces rows = search (after_may, then_may, ok_or_may, unless_may, front_may, first_may, sample_may) depth 9

-- ---- cells

pub few_may : (cells : ℕ) → May (few_cells cells)
unfolding few_cells
few_may cells = unless_may _ (some_may _ _ tt)

module _ (c : Cutting) (asked : Asked) (t : Timeline) where
  located_may : (number : ℕ) → May (located_cell c asked t number)
  unfolding located_cell
  located_may number = search (after_may, few_may, then_may, ok_or_may)

  pieces_by : (declared : Bool) (number : ℕ) → May (segment_pieces_by c declared asked t number)
  pieces_by true number = then_may _ _ (located_may number) (λ cell. tt)
  pieces_by false number = tt

  pieces_may : (number : ℕ) → May (segment_pieces c asked t number)
  unfolding segment_pieces
  pieces_may number = pieces_by _ number

  pub segment_may : (number : ℕ) (form : Form) → May (planned_segment c asked t number form)
  unfolding planned_segment
  segment_may number form =
      then_may _ _ (pieces_may number) (λ needed. then_may _ _ (each_may _ (checked_may c.files c.edits asked) needed) (λ pieces.
      then_may _ _ (located_may number) (λ cell. rows_may number form asked pieces _)))

  all_by : (declared : Bool) → May (all_pieces_by c declared asked t)
  all_by true = after_may _ _ (few_may _) tt
  all_by false = tt

  all_may : May (all_pieces c asked t)
  unfolding all_pieces
  all_may = all_by _

  pub listed_may : May (planned_rows c asked t)
  unfolding planned_rows
  listed_may = then_may _ _ all_may (λ pieces. after_may _ _ (each_may _ (checked_may c.files c.edits asked) pieces) (after_may _ _ (few_may _) tt))

-- ---- I-frames

module _ (c : Cutting) (video : ℕ) (t : Timeline) where
  pub iframes_may : May (planned_iframes c video t)
  unfolding planned_iframes
  iframes_may = search (after_may, listed_may, unless_may, some_may)

  pub lone_iframe_may : (number index : ℕ) → May (planned_iframe c video t number index)
  unfolding planned_iframe
  lone_iframe_may number index =
      then_may _ _ (pieces_may c _ t number) (λ needed. then_may _ _ (each_may _ (checked_may c.files c.edits _) needed) (λ pieces.
      then_may _ _ (located_may c _ t number) (λ cell. iframe_may number index _ pieces _)))
