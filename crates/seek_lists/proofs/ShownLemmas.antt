-- The sequences of a master playlist over metadata: what is due of each.
use Rattle.std.proofs.Common.{◌≡◌, ◌≢◌, ℕ, Bool, List, [], ◌∷◌, take, slice_get, Option, Some, None, IfOk, IfErr, Result, Ok, Err, refl, sym, ap, ◌∙◌, subst}
use Rattle.std.specs.Prelude.{map, ok_or}
use Rattle.vod_types.specs.declared.paths.Leaf.TheVariants.{Master}
use Rattle.vod_types.specs.declared.refusal.Refusal.{Refusal}
use Rattle.vod_types.specs.declared.refusal.Refusal.TheVariants.{NoMemory, NothingSelected, StoreFailed}
use Rattle.vod_types.specs.declared.tracks.Asked.{Asked}
use Rattle.vod_types.specs.Results.{◌>>=◌, Answers}
use Rattle.mp4_model.specs.Movie.{Movie}
use Rattle.clip_model.specs.declared.Piece.{Piece}
use Rattle.clip_model.specs.Timeline.{Timeline}
use Rattle.vod_source.specs.Stored.{Read}
use Rattle.origin_model.specs.Loaded.{loaded}
use Rattle.origin_model.specs.Reads.{Cache, turn_names}
use Rattle.origin_model.specs.Requests.{Setup, Asking, honours_edits, timeline_asked}
use Rattle.flat_samples.specs.Checks as flat
use Rattle.flat_lists.specs.declared.shown.Shown.{Shown}
use Rattle.flat_lists.specs.Listings.{master_due}
use Rattle.flat_lists.specs.Shown.{all_shown, first_names, shown_by_piece, shown_due, shown_in_movie, text_by}
use Rattle.flat_lists.proofs.MasterLemmas.{due-is, names-are, text_of}
use Rattle.flat_lists.proofs.ShownLemmas.{by_fault, by_movie, due_of, names_of, none_at, of_first, selected, show}
use Rattle.vod_plan.specs.Tracks as plan
use Rattle.vod_plan.specs.Turned.{AreTurns}
use Rattle.seek_lists.specs.Shown.{shown_names}
use Rattle.seek_lists.specs.Turned.{IsTurned}
use Rattle.seek_lists.proofs.Turns.{then_answered, then_refused, unbegun}

-- the check of a piece is that of the plain way
pub same_check : (edits : Bool) (asked : Asked) (piece : Piece) (m : Movie) → plan.checked_in edits asked piece m ≡ flat.checked_in edits asked piece m
unfolding plan.checked_in flat.checked_in
same_check edits asked piece m = refl

-- ---- by the first piece

module _ (o : Setup) (a : Asking) (sequence : ℕ) (piece : Piece) (held now : Cache) (log log_now : Option (List Read)) where
  abbrev Stepped : Result Shown Refusal → Type 0
  Stepped r = IsTurned o.files (λ s. s) (shown_by_piece o a sequence piece) (piece.name ∷ []) r held now log log_now

  pub piece_looked : {Z : Type 0} (edits : Bool) (z : Z) (m : Movie) (r : Result Shown Refusal) → edits ≡ honours_edits o → loaded o.files piece.name ≡ Ok m → AreTurns o.files (piece.name ∷ []) (Ok z) held now log log_now
      → Answers (λ s. s) r (shown_in_movie edits a.mapping sequence piece m) → Stepped r
  piece_looked edits z m r honoured load turned answers =
      let due : shown_in_movie edits a.mapping sequence piece m ≡ shown_by_piece o a sequence piece =
      ap (λ (b : Bool). shown_in_movie b a.mapping sequence piece m) honoured ∙ sym (by_movie o a sequence piece m load) in
      then_answered o.files (λ s. s) (shown_by_piece o a sequence piece) (piece.name ∷ []) held now log log_now z r turned (subst (Answers (λ s. s) r) due answers)

  pub piece_unlooked : {Z : Type 0} (e : Refusal) → (e ≢ NoMemory → e ≢ StoreFailed → loaded o.files piece.name ≡ Err e) → AreTurns {X = Z} o.files (piece.name ∷ []) (Err e) held now log log_now → Stepped (Err e)
  piece_unlooked e known turned =
      then_refused o.files (λ s. s) (shown_by_piece o a sequence piece) (piece.name ∷ []) held now log log_now e turned (λ memory store. by_fault o a sequence piece e (known memory store))

-- ---- by the timeline

module _ (o : Setup) (a : Asking) (sequence : ℕ) (held : Cache) (log : Option (List Read)) where
  -- there is none
  pub untimed : (e : Refusal) → (e ≢ NoMemory → timeline_asked o a sequence ≡ Err e) → IsTurned {X = Shown} o.files (λ s. s) (shown_due o a sequence) (first_names o a sequence) (Err e) held held log log
  untimed e refused =
      unbegun o.files (λ s. s) (shown_due o a sequence) (first_names o a sequence) held log e (λ memory. due_of o a sequence (Err e) (refused memory)) (λ memory. names_of o a sequence (Err e) (refused memory))

  -- or no piece
  pub unselected : (t : Timeline) → timeline_asked o a sequence ≡ Ok t → slice_get t.pieces 0 ≡ None
      → IsTurned {X = Shown} o.files (λ s. s) (shown_due o a sequence) (first_names o a sequence) (Err (NothingSelected sequence)) held held log log
  unselected t e none =
      unbegun o.files (λ s. s) (shown_due o a sequence) (first_names o a sequence) held log (NothingSelected sequence)
      (λ memory. due_of o a sequence (Ok t) e ∙ ap (λ (found : Option Piece). (ok_or found (NothingSelected sequence) >>= of_first o a sequence) >>= show o a sequence) none)
      (λ memory. names_of o a sequence (Ok t) e ∙ ap (λ (ps : List Piece). map (λ (piece : Piece). piece.name) (take 1 ps)) (none_at t.pieces none))

  -- or one
  pub stepped : (t : Timeline) (piece : Piece) (r : Result Shown Refusal) (now : Cache) (log_now : Option (List Read)) → timeline_asked o a sequence ≡ Ok t → slice_get t.pieces 0 ≡ Some piece
      → IsTurned o.files (λ s. s) (shown_by_piece o a sequence piece) (piece.name ∷ []) r held now log log_now → IsTurned o.files (λ s. s) (shown_due o a sequence) (first_names o a sequence) r held now log log_now
  stepped t piece r now log_now e at step =
      let found = selected o a sequence t piece e at in
      subst (λ (due : Result Shown Refusal). IsTurned o.files (λ s. s) due (first_names o a sequence) r held now log log_now) (sym found.0)
      (subst (λ (names : List (List ℕ)). IsTurned o.files (λ s. s) (shown_by_piece o a sequence piece) names r held now log log_now) (sym found.1) step)

-- ---- the text

module _ {V X : Type 0} (shown_view : V → List Shown) (view : X → List ℕ) (o : Setup) (a : Asking) (held now : Cache) (log log_now : Option (List Read)) where
  abbrev Written : Result X Refusal → Type 0
  Written r = IsTurned o.files view (master_due o a) (turn_names o a Master) r held now log log_now

  pub master_refused : (e : Refusal) → IsTurned o.files shown_view (all_shown o a) (shown_names o a) (Err e) held now log log_now → Written (Err e)
  master_refused e step =
      subst (λ (names : List (List ℕ)). IsTurned o.files view (master_due o a) names (Err e) held now log log_now) (sym (names-are o a))
      (record {
        answered = λ memory store. due-is o a ∙ ap (λ (r : Result (List Shown) Refusal). r >>= λ shown. Ok (text_of o a shown)) (step.answered memory store);
        turned = record { logged = step.turned.logged; cache = step.turned.cache };
      })

  pub master_written : (v : V) (r : Result X Refusal) (iframes : Bool) → IsTurned o.files shown_view (all_shown o a) (shown_names o a) (Ok v) held now log log_now → iframes ≡ o.settings.iframes
      → IfOk r (λ x. view x ≡ text_by a.mapping iframes (shown_view v)) → IfErr r (λ refusal. refusal ≡ NoMemory) → Written r
  master_written v r iframes step same text only =
      subst (λ (names : List (List ℕ)). IsTurned o.files view (master_due o a) names r held now log log_now) (sym (names-are o a))
      (then_answered o.files view (master_due o a) (shown_names o a) held now log log_now v r step.turned (answers r text only))
    where
      due : master_due o a ≡ Ok (text_of o a (shown_view v))
      due = due-is o a ∙ ap (λ (r : Result (List Shown) Refusal). r >>= λ shown. Ok (text_of o a shown)) step.answered

      answers : (r : Result X Refusal) → IfOk r (λ x. view x ≡ text_by a.mapping iframes (shown_view v)) → IfErr r (λ refusal. refusal ≡ NoMemory) → Answers view r (master_due o a)
      answers (Ok x) text only = due ∙ ap Ok (sym (text ∙ ap (λ (b : Bool). text_by a.mapping b (shown_view v)) same))
      answers (Err e) text only = λ other. absurd (other only)
