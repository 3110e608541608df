-- What a rehearsal counts of an answer, and its line.
use Rattle.std.proofs.Common.{◌≡◌, ◌≢◌, ◌⊎◌, inl, inr, ℕ, ◌+◌, ◌<◌, List, [], ◌∷◌, ◌++◌, append_assoc, length, get_or, map, take, Option, Some, None, IfSome, Result, Ok, Err, refl, sym, ap, ◌∙◌, subst}
use Rattle.std.specs.Prelude.{sum_by}
use Rattle.std.proofs.lemmas.List.{length-map}
use Rattle.std.proofs.lemmas.List.Sums.{sum_by-cons, sum_by_more}
use Rattle.std.specs.Prelude.{IfOk, IfErr}
use Rattle.vod_types.specs.declared.refusal.Refusal.{Refusal}
use Rattle.vod_types.specs.declared.refusal.Refusal.TheVariants.{NoMemory, StoreFailed}
use Rattle.vod_types.specs.declared.segments.Listed.{Listed}
use Rattle.segment_model.specs.Listing.{ListedSegment, listed_view}
use Rattle.list_model.specs.Command.{Outcome, refused, no_memory, outcome_status, rehearsal_line}
use Rattle.origin_model.specs.Answers.{answer, path_rows}
use Rattle.rehearsal_laws.specs.Films.{playlist_path, rehearsal_setup, IsFilm}
use Rattle.rehearsal_laws.proofs.Listed.{every_number_is_listed}
use Rattle.vod_app.specs.Rehearsals.{answered_media, line_of, listed_samples, rehearsal_due, IsUnrefused, TellsLine}
use Rattle.vod_source.specs.Stored.{Files}
use Rattle.vod_http.specs.Answered.{Rest, Advances}
use Rattle.vod_source.specs.declared.step.Step.TheVariants.{Again}

-- ---- bodies

-- what is left and what was written are the whole after one more step
went_on : (all left : Rest) (now : Option Rest) (bytes bytes_now : List ℕ) → all.0 ≡ bytes ++ left.0 → Advances (Some left) now (Some bytes) (Some bytes_now) Again
    → (more : Rest) × (now ≡ Some more) × (all.0 ≡ bytes_now ++ more.0)
went_on all left now bytes bytes_now split (front, back, halves, after, wrote) =
    let is : bytes_now ≡ bytes ++ front = cc wrote in (
      (back, left.1),
      after,
      split ∙ ap (λ (rest : List ℕ). bytes ++ rest) halves ∙ sym (append_assoc bytes front back) ∙ ap (λ (b : List ℕ). b ++ back) (sym is),
    )

pub rest_on : (first before now : Option Rest) (bytes bytes_now : List ℕ)
    → IfSome first (λ all. (left : Rest) × (before ≡ Some left) × (all.0 ≡ bytes ++ left.0))
    → Advances before now (Some bytes) (Some bytes_now) Again
    → IfSome first (λ all. (left : Rest) × (now ≡ Some left) × (all.0 ≡ bytes_now ++ left.0))
rest_on None before now bytes bytes_now told step = tt
rest_on (Some all) before now bytes bytes_now (left, is, split) step =
    went_on all left now bytes bytes_now split (subst (λ (b : Option Rest). Advances b now (Some bytes) (Some bytes_now) Again) is step)

-- ---- sums

sum_views : (f : ListedSegment → ℕ) (rows : List Listed) → sum_by f (map listed_view rows) ≡ sum_by (λ r. f (listed_view r)) rows
sum_views f [] = refl
sum_views f (r ∷ rows) =
    sum_by-cons f (listed_view r) (map listed_view rows) ∙ ap (λ (n : ℕ). f (listed_view r) + n) (sum_views f rows) ∙ sym (sum_by-cons (λ q. f (listed_view q)) r rows)

-- one more row
pub sum_more : (f : ListedSegment → ℕ) (rows : List Listed) (i : ℕ) (d : Listed) → i < length rows
    → sum_by f (map listed_view (take (i + 1) rows)) ≡ sum_by f (map listed_view (take i rows)) + f (listed_view (get_or rows i d))
sum_more f rows i d h =
    sum_views f (take (i + 1) rows) ∙ sum_by_more (λ r. f (listed_view r)) rows i d h
    ∙ ap (λ (n : ℕ). n + f (listed_view (get_or rows i d))) (sym (sum_views f (take i rows)))

-- ---- lines

module _ (n : ℕ) (files : Files) where
  pub line_refused : (why : Refusal) → path_rows (rehearsal_setup files) playlist_path ≡ Err why → rehearsal_due n (rehearsal_setup files) ≡ ([], Some why)
  unfolding rehearsal_due
  line_refused why e = ap (line_of n (answer (rehearsal_setup files))) e

  line_whole : (rows : List ListedSegment) (segments samples media : ℕ) → path_rows (rehearsal_setup files) playlist_path ≡ Ok rows
      → segments ≡ length rows → samples ≡ sum_by listed_samples rows → media ≡ sum_by (answered_media (answer (rehearsal_setup files))) rows
      → rehearsal_due n (rehearsal_setup files) ≡ (rehearsal_line n segments samples media, None)
  unfolding rehearsal_due
  line_whole rows segments samples media e f g h =
      ap (line_of n (answer (rehearsal_setup files))) e
      ∙ sym (ap (λ (k : ℕ). (rehearsal_line n k samples media, None)) f
      ∙ ap (λ (k : ℕ). (rehearsal_line n (length rows) k media, None)) g
      ∙ ap (λ (k : ℕ). (rehearsal_line n (length rows) (sum_by listed_samples rows) k, None)) h)

  -- the line that was made of listed rows
  made_of : {T : Type 0} (view : T → List ℕ) → IsFilm n files → (rows : List Listed) (seen : List Listed) (made : Result T Refusal)
      → path_rows (rehearsal_setup files) playlist_path ≡ Ok (map listed_view rows) → seen ≡ rows
      → IfOk made (λ text. view text ≡ rehearsal_line n (length seen) (sum_by listed_samples (map listed_view seen)) (sum_by (answered_media (answer (rehearsal_setup files))) (map listed_view seen)))
      → IfErr made (λ why. why ≡ NoMemory) → TellsLine view n made
  made_of view film rows seen (Ok text) are same line only = (
    files,
    film,
    line_whole (map listed_view rows) (length seen) (sum_by listed_samples (map listed_view seen)) (sum_by (answered_media (answer (rehearsal_setup files))) (map listed_view seen)) are
        (ap (λ (rs : List Listed). length rs) same ∙ sym (length-map rows listed_view))
        (ap (λ (rs : List Listed). sum_by listed_samples (map listed_view rs)) same)
        (ap (λ (rs : List Listed). sum_by (answered_media (answer (rehearsal_setup files))) (map listed_view rs)) same)
        ∙ ap (λ (bytes : List ℕ). (bytes, None)) (sym line),
  )
  made_of view film rows seen (Err why) are same line only = λ memory store. absurd (memory only)

  pub line_made : {T : Type 0} (view : T → List ℕ) → IsFilm n files → (now : Files) → now ≡ files → (rows : List Listed) (seen : List Listed) (made : Result T Refusal)
      → path_rows (rehearsal_setup files) playlist_path ≡ Ok (map listed_view rows) → seen ≡ rows
      → IfOk made (λ text. view text ≡ rehearsal_line n (length seen) (sum_by listed_samples (map listed_view seen)) (sum_by (answered_media (answer (rehearsal_setup now))) (map listed_view seen)))
      → IfErr made (λ why. why ≡ NoMemory) → TellsLine view n made
  line_made view film now kept rows seen made are same line only =
      made_of view film rows seen made are same
      (subst (λ (fs : Files). IfOk made (λ text. view text ≡ rehearsal_line n (length seen) (sum_by listed_samples (map listed_view seen)) (sum_by (answered_media (answer (rehearsal_setup fs))) (map listed_view seen)))) kept line)
      only

-- ---- the end

-- no film is refused
never_refused : (n : ℕ) (files : Files) (why : Refusal) → IsFilm n files → rehearsal_due n (rehearsal_setup files) ≡ ([], Some why) → ⊥
unfolding rehearsal_due
never_refused n files why film e =
    let rows = every_number_is_listed n files film in
    let told : None ≡ Some why = sym (ap (λ r. (line_of n (answer (rehearsal_setup files)) r).1) rows.1) ∙ ap (λ due. due.1) e in
    cc

pub unrefused : {T : Type 0} (view : T → List ℕ) (n : ℕ) (why : Refusal) (outcome : Outcome) → TellsLine view n (Err why)
    → (outcome ≡ no_memory) ⊎ ((outcome ≡ refused why) × (why ≢ NoMemory) × (why ≢ StoreFailed)) → IsUnrefused outcome
unrefused view n why outcome told (inl memory) = inr (inr memory)
unrefused view n why outcome told (inr (is, memory, store)) = let film = told memory store in absurd (never_refused n film.0 why film.1 film.2)

pub unrefused_status : (outcome : Outcome) (status : ℕ) → status ≡ outcome_status outcome → IsUnrefused outcome → (status ≡ 0) ⊎ ((status ≡ 4) ⊎ (status ≡ 5))
unrefused_status outcome status is (inl whole) = inl (is ∙ ap outcome_status whole)
unrefused_status outcome status is (inr (inl failed)) = inr (inl (is ∙ ap outcome_status failed))
unrefused_status outcome status is (inr (inr memory)) = inr (inr (is ∙ ap outcome_status memory))
