-- Init segments over metadata: what is due of a piece and of a part.
use Rattle.std.proofs.Common.{◌≡◌, ℕ, zero, suc, ◌-◌, ◌<◌, ◌⊎◌, inl, inr, Bool, List, [], ◌∷◌, length, slice_get, Option, Some, None, Result, Ok, Err, IfOk, IfErr, sym, ap, ◌∙◌, subst, refl, arith}
use Rattle.std.specs.Prelude.{map, option_map}
use Rattle.std.specs.Option.{option_map_or}
use Rattle.std.proofs.lemmas.Option.{same_Some, slice_get_past}
use Rattle.vod_types.specs.declared.refusal.Refusal.{Refusal}
use Rattle.vod_types.specs.declared.refusal.Refusal.TheVariants.{EmptyPart, NoMemory, NoPart}
use Rattle.vod_types.specs.declared.tracks.Asked.{Asked}
use Rattle.vod_types.specs.Lists.{nth_from_one}
use Rattle.vod_types.specs.Results.{◌>>=◌, Answers}
use Rattle.mp4_model.specs.Movie.{Movie}
use Rattle.mp4_tracks.specs.declared.views.TrackView.{TrackView}
use Rattle.mp4_tracks.specs.Views.{good_of}
use Rattle.media_model.specs.InitSegment.{init_segment}
use Rattle.clip_model.specs.declared.Part.{Part}
use Rattle.clip_model.specs.declared.Piece.{Piece}
use Rattle.clip_model.specs.Timeline.{Timeline}
use Rattle.vod_source.specs.Stored.{Files, Read}
use Rattle.origin_model.specs.Bodies.{init_body}
use Rattle.origin_model.specs.Loaded.{CheckedPiece, checked, loaded}
use Rattle.origin_model.specs.Plans.{pieces_or_none}
use Rattle.origin_model.specs.Reads.{Cache}
use Rattle.origin_model.specs.Requests.{first_piece, init_piece}
use Rattle.origin_model.specs.Sources.{part_pieces}
use Rattle.vod_plan.specs.declared.tracks.AskedTrack.{AskedTrack}
use Rattle.vod_plan.specs.Tracks.{checked_in, track_in}
use Rattle.vod_plan.proofs.LookWalks.{not_loaded, was_loaded}
use Rattle.seek_lists.specs.Inits.{init_in_movie, init_names, part_init, piece_init}
use Rattle.seek_lists.specs.Turned.{IsTurned}
use Rattle.seek_lists.proofs.Turns.{unturned}

-- ---- what is written

-- that of views of tracks
abbrev pub segment_of : Option TrackView → Option TrackView → List ℕ
segment_of video audio =
    init_segment (option_map (λ v. v.entry.now) video) (option_map_or (λ v. v.width) video 0) (option_map_or (λ v. v.height) video 0) (option_map (λ v. v.entry.now) audio)

shown_body : (video audio : Option TrackView)
    → init_segment (option_map (λ t. t.entry) (option_map good_of video)) (option_map_or (λ t. t.width) (option_map good_of video) 0)
    (option_map_or (λ t. t.height) (option_map good_of video) 0) (option_map (λ t. t.entry) (option_map good_of audio))
    ≡ segment_of video audio
shown_body None None = refl
shown_body None (Some audio) = refl
shown_body (Some video) None = refl
shown_body (Some video) (Some audio) = refl

body_of_views : (c : CheckedPiece) (video audio : Option TrackView) → option_map good_of video ≡ c.video → option_map good_of audio ≡ c.audio → segment_of video audio ≡ init_body c
unfolding init_body
body_of_views c video audio seen heard = rw (sym seen, sym heard) (sym (shown_body video audio))

-- which are views of asked tracks
pub views_written : {X : Type 0} (view : X → List ℕ) (m : Movie) (video audio : Option AskedTrack) (seen heard : Option TrackView) (r : Result X Refusal) → option_map good_of seen ≡ track_in m video
    → option_map good_of heard ≡ track_in m audio → IfOk r (λ x. view x ≡ segment_of seen heard)
    → IfOk r (λ x. (c : CheckedPiece) → c.video ≡ track_in m video → c.audio ≡ track_in m audio → view x ≡ init_body c)
views_written view m video audio seen heard (Ok x) one other bytes = λ c is also. bytes ∙ body_of_views c seen heard (one ∙ sym is) (other ∙ sym also)
views_written view m video audio seen heard (Err e) one other bytes = tt

pub body_for : {X : Type 0} (view : X → List ℕ) (m n : Movie) (video audio : Option AskedTrack) (c : CheckedPiece) (r : Result X Refusal) → m ≡ n → c.video ≡ track_in n video → c.audio ≡ track_in n audio
    → IfOk r (λ x. (c : CheckedPiece) → c.video ≡ track_in m video → c.audio ≡ track_in m audio → view x ≡ init_body c) → IfOk r (λ x. view x ≡ init_body c)
body_for view m n video audio c (Ok x) same is also bytes = bytes c (is ∙ ap (λ (m : Movie). track_in m video) (sym same)) (also ∙ ap (λ (m : Movie). track_in m audio) (sym same))
body_for view m n video audio c (Err e) same is also bytes = tt

-- where it is that of the checked piece
pub written : {X : Type 0} (view : X → List ℕ) (edits : Bool) (asked : Asked) (piece : Piece) (m : Movie) (c : CheckedPiece) (r : Result X Refusal) → checked_in edits asked piece m ≡ Ok c
    → IfOk r (λ x. view x ≡ init_body c) → IfErr r (λ refusal. refusal ≡ NoMemory) → Answers view r (init_in_movie edits asked piece m)
written view edits asked piece m c (Ok x) e bytes only = ap (λ (r : Result CheckedPiece Refusal). r >>= λ c. Ok (init_body c)) e ∙ ap Ok (sym bytes)
written view edits asked piece m c (Err d) e bytes only = λ other. absurd (other only)

pub unchecked : (edits : Bool) (asked : Asked) (piece : Piece) (m : Movie) (e : Refusal) → checked_in edits asked piece m ≡ Err e → init_in_movie edits asked piece m ≡ Err e
unchecked edits asked piece m e is = ap (λ (r : Result CheckedPiece Refusal). r >>= λ c. Ok (init_body c)) is

-- ---- the piece

module _ (files : Files) (edits : Bool) (asked : Asked) (piece : Piece) where
  abbrev bodies : Result CheckedPiece Refusal → Result (List ℕ) Refusal
  bodies r = r >>= λ c. Ok (init_body c)

  pub piece_loaded : (m : Movie) → loaded files piece.name ≡ Ok m → piece_init files edits asked piece ≡ init_in_movie edits asked piece m
  piece_loaded m e = ap bodies (was_loaded files edits asked piece m e)

  pub piece_unloaded : (e : Refusal) → loaded files piece.name ≡ Err e → piece_init files edits asked piece ≡ Err e
  piece_unloaded e is = ap bodies (not_loaded files edits asked piece e is)

-- ---- the part

nth-from : {X : Type 0} (xs : List X) (n : ℕ) → 0 < n → nth_from_one xs n ≡ slice_get xs (n - 1)
nth-from xs zero some = absurd (omega (arith, some))
nth-from xs (suc i) some = let same : suc i - 1 ≡ i = omega arith in rw same refl

module _ (t : Timeline) (number : ℕ) where
  no_part : None ≡ nth_from_one t.parts number → init_piece t number ≡ Err (NoPart number (length t.parts))
  unfolding init_piece
  no_part e = rw (sym e) refl

  past_parts : length t.parts < number → init_piece t number ≡ Err (NoPart number (length t.parts))
  past_parts past = no_part (sym (nth-from t.parts number (omega (arith, past)) ∙ slice_get_past t.parts (number - 1) (omega (arith, past))))

  part_zero : number ≡ 0 → init_piece t number ≡ Err (NoPart number (length t.parts))
  part_zero e = no_part (rw e refl)

  pub absent : (parts : List Part) → parts ≡ t.parts → (number ≡ 0) ⊎ ((number ≡ 0 → ⊥) × length parts < number) → init_piece t number ≡ Err (NoPart number (length parts))
  absent parts same (inl e) = part_zero e ∙ ap (λ (ps : List Part). Err (NoPart number (length ps))) (sym same)
  absent parts same (inr h) = past_parts (subst (λ (ps : List Part). length ps < number) same h.1) ∙ ap (λ (ps : List Part). Err (NoPart number (length ps))) (sym same)

  pub by_part : (part : Part) → 0 < number → slice_get t.parts (number - 1) ≡ Some part → init_piece t number ≡ first_piece number (part_pieces t part)
  unfolding init_piece
  by_part part some at = rw (nth-from t.parts number some, at) refl

pub first_of : (number : ℕ) (pieces : List Piece) (piece : Piece) → slice_get pieces 0 ≡ Some piece → first_piece number pieces ≡ Ok piece
first_of number [] piece e = absurd cc
first_of number (p ∷ pieces) piece e = ap Ok (same_Some p piece e)

pub none_of : (number : ℕ) (pieces : List Piece) → slice_get pieces 0 ≡ None → first_piece number pieces ≡ Err (EmptyPart number)
none_of number [] e = refl
none_of number (p ∷ pieces) e = absurd cc

module _ {X : Type 0} (view : X → List ℕ) (files : Files) (edits : Bool) (asked : Asked) (t : Timeline) (number : ℕ) (held : Cache) (log : Option (List Read)) where
  abbrev names_by : Result Piece Refusal → List (List ℕ)
  names_by r = map (λ (piece : Piece). piece.name) (pieces_or_none (r >>= λ piece. Ok (piece ∷ [])))

  -- it has a first piece
  pub part_turned : (piece : Piece) (r : Result X Refusal) (now : Cache) (log_now : Option (List Read)) → init_piece t number ≡ Ok piece
      → IsTurned files view (piece_init files edits asked piece) (piece.name ∷ []) r held now log log_now → IsTurned files view (part_init files edits asked t number) (init_names t number) r held now log log_now
  part_turned piece r now log_now e turned =
      let due : part_init files edits asked t number ≡ piece_init files edits asked piece =
      ap (λ (r : Result Piece Refusal). r >>= λ piece. checked files edits asked piece >>= λ c. Ok (init_body c)) e in
      subst (λ (due : Result (List ℕ) Refusal). IsTurned files view due (init_names t number) r held now log log_now) (sym due)
      (subst (λ (names : List (List ℕ)). IsTurned files view (piece_init files edits asked piece) names r held now log log_now) (sym (ap names_by e)) turned)

  -- or none
  pub part_refused : (e : Refusal) → init_piece t number ≡ Err e → IsTurned files view (part_init files edits asked t number) (init_names t number) (Err e) held held log log
  part_refused e is =
      unturned files view (part_init files edits asked t number) (init_names t number) held log (Err e) (ap names_by is)
      (λ memory. ap (λ (r : Result Piece Refusal). r >>= λ piece. checked files edits asked piece >>= λ c. Ok (init_body c)) is)
