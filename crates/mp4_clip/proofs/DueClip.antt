-- The clip that is due, by the ranges of rows that were selected.
use Rattle.std.proofs.Common.{◌≡◌, ℕ, ◌+◌, ◌<◌, ◌≤◌, ◌^◌, List, [], ◌∷◌, length, map, Option, Some, None, Result, Ok, Err, refl, sym, ap, ap₂, ◌∙◌, subst, append-nil}
use Rattle.std.specs.Prelude.{find, nat_lt, option_map, ◌==◌, IfSome}
use Rattle.std.specs.Bool.{then_some}
use Rattle.std.specs.Option.{option_map_or}
use Rattle.std.specs.Rc.{rc_value}
use Rattle.std.specs.Result.{result_ok}
use Rattle.std.proofs.lemmas.Bool.{lt-ltb, le-ltb}
use Rattle.std.proofs.lemmas.List.Elements.{All-nil, All-cons}
use Rattle.vod_types.specs.declared.refusal.Refusal.{Refusal}
use Rattle.vod_types.specs.declared.refusal.Refusal.TheVariants.{SegmentTooLarge, EmptyClip, TooManySamples}
use Rattle.vod_types.specs.declared.segments.Form.TheVariants.{Fmp4}
use Rattle.vod_types.specs.declared.segments.Row.{Row}
use Rattle.vod_types.specs.declared.tracks.Asked.{Asked}
use Rattle.vod_types.specs.declared.tracks.Kind.{Kind}
use Rattle.vod_types.specs.declared.tracks.Kind.TheVariants.{Video, Audio}
use Rattle.vod_types.specs.Results.{◌>>◌, unless}
use Rattle.vod_types.specs.Tracks.{lead_of}
use Rattle.mp4_model.specs.declared.TrackFault.{TrackFault}
use Rattle.mp4_model.specs.Edits.{Edit, no_edit}
use Rattle.mp4_model.specs.GoodTracks.{GoodTrack}
use Rattle.mp4_model.specs.Movie.{Movie}
use Rattle.clip_model.specs.declared.Piece.{Piece}
use Rattle.segment_model.specs.Rows.{TimedRow, written_row}
use Rattle.segment_model.specs.Timeline.{TrackRows, rows_of, timeline, written_rows}
use Rattle.media_model.specs.Fragment.{sizes}
use Rattle.origin_model.specs.Clips.{PlannedClip, checked_clip}
use Rattle.origin_model.specs.Loaded.{CheckedPiece}
use Rattle.origin_model.specs.Sources.{source_piece}
use Rattle.origin_model.specs.Writable.{IsSoundPiece}
use Rattle.vod_meta.specs.Held.{HeldMovie}
use Rattle.vod_plan.specs.declared.spans.PlanPiece.{PlanPiece}
use Rattle.vod_plan.specs.declared.tracks.AskedTrack.{AskedTrack}
use Rattle.vod_plan.specs.declared.tracks.CheckedTracks.{CheckedTracks}
use Rattle.vod_plan.specs.Needed.{piece_rows}
use Rattle.vod_plan.specs.Ranges.{PlannedPiece, RowRange, planned_of}
use Rattle.vod_plan.specs.Selected.{rows_planned, AreFound, IsFound, IsRangeIf, IsSelected}
use Rattle.vod_plan.specs.Spans.{piece_view, rows_in, IsPlanPiece}
use Rattle.vod_plan.specs.Tracks.{checked_view, edit_in, track_in}
use Rattle.vod_plan.proofs.DueRows.{lead_count, other_count}
use Rattle.vod_plan.proofs.FoundLemmas.{found_piece, found_rows, piece_length}
use Rattle.mp4_clip.specs.Counts.{counts_checked, counts_of}
use Rattle.mp4_clip.specs.Kept.{checked_of, clip_of, kept_rows}

-- ---- steps

stopped : {A : Type 0} (a b : Result (Unit {0}) Refusal) (r : Result A Refusal) (e : Refusal) → (a >> b) ≡ Err e → (a >> (b >> r)) ≡ Err e
stopped (Ok x) (Ok y) r e h = absurd cc
stopped (Ok x) (Err d) r e h = let same : d ≡ e = cc in ap Err same
stopped (Err d) b r e h = let same : d ≡ e = cc in ap Err same

passed : {A : Type 0} (a b : Result (Unit {0}) Refusal) (r : Result A Refusal) (x : Unit {0}) → (a >> b) ≡ Ok x → (a >> (b >> r)) ≡ r
passed (Ok y) (Ok z) r x h = refl
passed (Ok y) (Err d) r x h = absurd cc
passed (Err d) b r x h = absurd cc

-- ---- the rows of one piece

rows_kind : (leads kind : Kind) (views : List PlannedPiece) → rows_of leads kind (rows_planned leads views) ≡ planned_of kind views
rows_kind Video Video views = refl
rows_kind Video Audio views = refl
rows_kind Audio Video views = refl
rows_kind Audio Audio views = refl

one_piece : (kind : Kind) (p : PlannedPiece) → planned_of kind (p ∷ []) ≡ piece_rows kind 0 p
one_piece kind p = append-nil (piece_rows kind 0 p)

-- ---- tracks and edits

track_kept : (kind : Kind) (e : Edit) (o : Option GoodTrack) (all : List TimedRow) (q : Option RowRange) → IsRangeIf kind e o all q → o ≡ option_map (λ r. r.track) q
track_kept kind e None all None h = refl
track_kept kind e None all (Some r) h = absurd h
track_kept kind e (Some t) all None h = absurd h
track_kept kind e (Some t) all (Some r) h = ap Some (sym h.track)

edit_kept : (kind : Kind) (e : Edit) (o : Option GoodTrack) (all : List TimedRow) (q : Option RowRange) → (o ≡ None → e ≡ no_edit) → IsRangeIf kind e o all q → e ≡ option_map_or (λ r. r.edit) q no_edit
edit_kept kind e None all None none h = none refl
edit_kept kind e None all (Some r) none h = absurd h
edit_kept kind e (Some t) all None none h = absurd h
edit_kept kind e (Some t) all (Some r) none h = sym h.edit

unasked : (m : Movie) (a : Option AskedTrack) → IfSome a (IsFound m) → track_in m a ≡ None → edit_in a ≡ no_edit
unasked m None found none = refl
unasked m (Some a) found none = let there : Some found.good ≡ None = sym (ap (λ (r : Result GoodTrack TrackFault). result_ok r) found.is) ∙ none in absurd cc

-- ---- the clip

module _ (sequence : ℕ) (asked : Asked) (piece : Piece) (tracks : CheckedTracks) (p : PlanPiece) (good : IsPlanPiece p) (found : AreFound tracks) (sound : IsSoundPiece asked (checked_view piece tracks))
    (meta : rc_value p.meta ≡ rc_value tracks.meta) (selected : IsSelected (checked_view piece tracks) (piece_view p)) where
  abbrev c : CheckedPiece
  c = checked_view piece tracks

  abbrev all_rows : TrackRows
  all_rows = timeline (source_piece c ∷ [])

  rows-are : rows_planned (lead_of asked) (piece_view p ∷ []) ≡ all_rows
  rows-are = found_rows asked (c ∷ []) (p ∷ []) (All-cons (IsSoundPiece asked) c [] sound (All-nil (IsSoundPiece asked))) (found_piece piece tracks p meta selected, tt)

  kind-count : (kind : Kind) → rows_in kind (piece_view p) ≡ length (planned_of kind (piece_view p ∷ []))
  kind-count kind = sym (ap (λ (rows : List TimedRow). length rows) (one_piece kind (piece_view p)) ∙ piece_length kind 0 p good)

  lead-count : (counts_of asked p).0 ≡ length all_rows.lead
  lead-count = lead_count (lead_of asked) (piece_view p ∷ []) _ _ (kind-count Video) (kind-count Audio) ∙ ap (λ (rows : TrackRows). length rows.lead) rows-are

  other-count : (counts_of asked p).1 ≡ length all_rows.other
  other-count = other_count (lead_of asked) (piece_view p ∷ []) _ _ (kind-count Video) (kind-count Audio) ∙ ap (λ (rows : TrackRows). length rows.other) rows-are

  written-are : (kind : Kind) → written_rows Fmp4 asked kind all_rows ≡ kept_rows kind p
  written-are kind =
      ap (λ (rows : TrackRows). map (written_row Fmp4) (rows_of (lead_of asked) kind rows)) (sym rows-are)
      ∙ ap (map (written_row Fmp4)) (rows_kind (lead_of asked) kind (piece_view p ∷ []) ∙ one_piece kind (piece_view p))

  -- the tracks of the piece are those of the ranges
  pub checked-is : c ≡ checked_of piece p
  checked-is =
      let m = (rc_value tracks.meta).movie in
      rw (
        sym (ap (λ (h : HeldMovie). h.movie.place.file_size) meta),
        track_kept Video c.video_edit c.video _ (piece_view p).video selected.video,
        track_kept Audio c.audio_edit c.audio _ (piece_view p).audio selected.audio,
        edit_kept Video c.video_edit c.video _ (piece_view p).video (unasked m tracks.video found.video) selected.video,
        edit_kept Audio c.audio_edit c.audio _ (piece_view p).audio (unasked m tracks.audio found.audio) selected.audio,
      ) refl

  abbrev empty : Result (Unit {0}) Refusal
  empty = unless (then_some (length all_rows.lead == 0) (EmptyClip sequence))

  abbrev many : Result (Unit {0}) Refusal
  many = unless (option_map (λ count. TooManySamples count) (find (nat_lt 2000000) (length all_rows.lead ∷ length all_rows.other ∷ [])))

  abbrev bytes : ℕ
  bytes = sizes (written_rows Fmp4 asked Video all_rows) + sizes (written_rows Fmp4 asked Audio all_rows)

  abbrev large : Result PlannedClip Refusal
  large =
      unless (then_some (nat_lt (2 ^ 40) bytes) (SegmentTooLarge bytes))
      >> Ok (record { piece = c; video = written_rows Fmp4 asked Video all_rows; audio = written_rows Fmp4 asked Audio all_rows })

  counted : (r : Result (Unit {0}) Refusal) → r ≡ counts_checked sequence (counts_of asked p) → (empty >> many) ≡ r
  counted r e = sym (e ∙ ap₂ (λ (n m : ℕ). counts_checked sequence (n, m)) lead-count other-count)

  -- refused for the numbers of rows
  pub due-counts : (e : Refusal) → Err e ≡ counts_checked sequence (counts_of asked p) → checked_clip sequence asked c ≡ Err e
  unfolding checked_clip
  due-counts e h = stopped empty many large e (counted (Err e) h)

  after-counts : (x : Unit {0}) → Ok x ≡ counts_checked sequence (counts_of asked p) → checked_clip sequence asked c ≡ large
  unfolding checked_clip
  after-counts x h = passed empty many large x (counted (Ok x) h)

  module _ (x : Unit {0}) (h : Ok x ≡ counts_checked sequence (counts_of asked p)) (n : ℕ) (e : n ≡ sizes (kept_rows Video p) + sizes (kept_rows Audio p)) where
    bytes-are : n ≡ bytes
    bytes-are = e ∙ ap₂ (λ (v a : List Row). sizes v + sizes a) (sym (written-are Video)) (sym (written-are Audio))

    -- or for their bytes
    pub due-large : 2 ^ 40 < n → checked_clip sequence asked c ≡ Err (SegmentTooLarge n)
    due-large more = after-counts x h ∙ rw (lt-ltb (2 ^ 40) bytes (subst (λ (n : ℕ). 2 ^ 40 < n) bytes-are more), bytes-are) refl

    -- the clip of the ranges
    pub due-clip : n ≤ 2 ^ 40 → checked_clip sequence asked c ≡ Ok (clip_of piece p)
    due-clip few =
        let small : large ≡ Ok (record { piece = c; video = written_rows Fmp4 asked Video all_rows; audio = written_rows Fmp4 asked Audio all_rows }) =
        rw (le-ltb (2 ^ 40) bytes (subst (λ (n : ℕ). n ≤ 2 ^ 40) bytes-are few)) refl in
        let same : ◌≡◌ {A = PlannedClip} (record { piece = c; video = written_rows Fmp4 asked Video all_rows; audio = written_rows Fmp4 asked Audio all_rows }) (clip_of piece p) =
        rw (written-are Video, written-are Audio, checked-is) refl in
        after-counts x h ∙ small ∙ ap (λ (clip : PlannedClip). Ok clip) same

-- the piece as it is kept
pub piece-kept : (piece : Piece) (p : PlanPiece) → (rc_value p.meta).name ≡ piece.name → p.base ≡ piece.base
    → ◌≡◌ {A = Piece} (record { name = (rc_value p.meta).name; tracks = piece.tracks; base = p.base; lo = piece.lo; hi = piece.hi; part = piece.part }) piece
piece-kept piece p name base = rw (name, base) refl
