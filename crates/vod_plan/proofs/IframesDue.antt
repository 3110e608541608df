-- What is due for the I-frames of a sequence, with the turns and looks for it.
use Rattle.std.proofs.Common.{◌≡◌, ◌≢◌, ℕ, ◌+◌, ◌*◌, ◌<◌, ◌≤◌, Bool, List, [], length, Option, None, IfOk, IfErr, Result, Ok, Err, refl, sym, ap, ◌∙◌, subst, arith}
use Rattle.std.specs.Prelude.{nat_lt, sum}
use Rattle.std.specs.Bool.{then_some}
use Rattle.std.proofs.lemmas.Bool.{lt-ltb, le-ltb}
use Rattle.vod_types.specs.declared.refusal.Refusal.{Refusal}
use Rattle.vod_types.specs.declared.refusal.Refusal.TheVariants.{NoMemory, TooManyIframes}
use Rattle.vod_types.specs.declared.segments.IframeRow.{IframeRow}
use Rattle.vod_types.specs.declared.tracks.Asked.{Asked}
use Rattle.vod_types.specs.Lists.{through_first}
use Rattle.vod_types.specs.Results.{◌>>◌, Answers, unless}
use Rattle.vod_types.specs.Tracks.{video_alone}
use Rattle.clip_model.specs.declared.Part.{Part}
use Rattle.clip_model.specs.declared.Piece.{Piece}
use Rattle.clip_model.specs.IsTimeline.{Follow, IsTimeline}
use Rattle.clip_model.specs.Timeline.{Timeline}
use Rattle.segment_model.specs.Cut.{listed}
use Rattle.segment_model.specs.Grid.{SegmentGrid}
use Rattle.segment_model.specs.Iframes.{iframes, listed_iframes}
use Rattle.segment_model.specs.Listing.{ListedSegment}
use Rattle.segment_model.specs.Timeline.{SourcePart}
use Rattle.vod_source.specs.Stored.{Files, Read}
use Rattle.vod_source.proofs.CallLemmas.{answers_unless}
use Rattle.origin_model.specs.Iframes.{planned_iframes}
use Rattle.origin_model.specs.Loaded.{CheckedPiece}
use Rattle.origin_model.specs.Plans.{Cutting, all_pieces, counts, planned_rows}
use Rattle.origin_model.specs.Sources.{source_parts}
use Rattle.origin_model.proofs.Entries.{planned_rows-whole}
use Rattle.seq_cells.specs.Cells.{stops}
use Rattle.vod_meta.specs.Held.{HeldMovie, names_held}
use Rattle.vod_plan.specs.declared.needed.NeededPieces.{NeededPieces}
use Rattle.vod_plan.specs.declared.spans.PlanPiece.{PlanPiece}
use Rattle.vod_plan.specs.IframeMarks.{marks_from, rows_of_marks}
use Rattle.vod_plan.specs.IframesPlanned.{iframes_over, AreFew, AreIframesBy, AreMore}
use Rattle.vod_plan.specs.ListingParts.{counts_over, AreListedBy, ArePiecesOfParts}
use Rattle.vod_plan.specs.Looks.{rows_bound, tracks_asked}
use Rattle.vod_plan.specs.Needed.{looked_count, AreLooks}
use Rattle.vod_plan.specs.Planned.{cutting_of}
use Rattle.vod_plan.proofs.IframeRows.{listed_of_marks}
use Rattle.vod_plan.proofs.RowsDue.{bound_is, cells_few, checked_all, count_is, counts_checked, found_parts, many_found, sources_over, turned_of}

-- ---- marks and rows

pub few_marks : (g : SegmentGrid) (align : Bool) (ps : List SourcePart) (rows : List IframeRow) → (rows ≡ rows_of_marks 0 (marks_from 1 (iframes g align ps))) × (length (marks_from 1 (iframes g align ps)) ≤ 100000)
    → AreFew rows (listed_iframes g align ps)
few_marks g align ps rows few =
    let is = listed_of_marks g align ps (marks_from 1 (iframes g align ps)) refl in
    (few.0 ∙ is.0, omega (arith, is.1, few.1))

pub more_marks : (g : SegmentGrid) (align : Bool) (ps : List SourcePart) (e : Refusal) → (100000 < length (marks_from 1 (iframes g align ps))) × (e ≡ TooManyIframes (length (marks_from 1 (iframes g align ps))))
    → AreMore e (listed_iframes g align ps)
more_marks g align ps e more =
    let is = listed_of_marks g align ps (marks_from 1 (iframes g align ps)) refl in
    (omega (arith, is.1, more.0), more.1 ∙ ap TooManyIframes is.1)

pub many_marks : (g : SegmentGrid) (align : Bool) (ps : List SourcePart) → length (marks_from 1 (iframes g align ps)) ≡ length (listed_iframes g align ps)
many_marks g align ps = (listed_of_marks g align ps (marks_from 1 (iframes g align ps)) refl).1

-- ---- few I-frames, or too many

abbrev at_most_100000 : List IframeRow → Result (List IframeRow) Refusal
at_most_100000 found = unless (then_some (nat_lt 100000 (length found)) (TooManyIframes (length found))) >> Ok found

few_found : (found : List IframeRow) → length found ≤ 100000 → at_most_100000 found ≡ Ok found
few_found found few = ap (λ b. unless (then_some b (TooManyIframes (length found))) >> Ok found) (le-ltb 100000 (length found) few)

more_found : (found : List IframeRow) → 100000 < length found → at_most_100000 found ≡ Err (TooManyIframes (length found))
more_found found more = ap (λ b. unless (then_some b (TooManyIframes (length found))) >> Ok found) (lt-ltb 100000 (length found) more)

-- ---- what is due

late_looks : (s s₁ b n : ℕ) → s₁ ≤ s + b → s₁ ≤ s + b + 1024 * n
late_looks s s₁ b n h = omega (arith, h)

-- one track is asked
found_looks : (s s₁ s₂ s₃ x y p ns cells m n : ℕ) → s₁ ≤ s + 1280 * (x * 1) → s₂ ≤ s₁ + 256 * (y * 1) → s₃ ≤ s₂ + 1152 * p + 256 * ns + 256 * m → x ≡ p → y ≡ x → ns ≡ cells → m ≡ n
    → s₃ ≤ s + (4096 * (x * 1) + 1024 * cells) + 1024 * n
found_looks s s₁ s₂ s₃ x y p ns cells m n h i j seen found counted listed = omega (arith, h, i, j, seen, found, counted, listed)

module _ (known : Files) (edits : Bool) (g : SegmentGrid) (align : Bool) (video : ℕ) (t : Timeline) {X : Type 0} (view : X → List IframeRow) (held held_now : List HeldMovie) (log log_now : Option (List Read)) where
  abbrev asked : Asked
  asked = video_alone video

  abbrev cut : Cutting
  cut = cutting_of known g align edits

  abbrev found : List IframeRow
  found = listed_iframes g align (source_parts known edits asked t)

  due_listed : (ls : List ListedSegment) → planned_rows cut asked t ≡ Ok ls → planned_iframes cut video t ≡ at_most_100000 found
  unfolding planned_iframes
  due_listed ls listed = rw listed refl

  due_refused : (e : Refusal) → planned_rows cut asked t ≡ Err e → planned_iframes cut video t ≡ Err e
  unfolding planned_iframes
  due_refused e refused = rw refused refl

  -- no rows
  abbrev pub no_rows : X → List ListedSegment
  no_rows x = []

  -- the refusals of the listed segments
  pub iframes_refused : (e : Refusal) (s s₁ : ℕ) → AreListedBy no_rows cut asked t (Err e) (names_held held) (names_held held_now) log log_now s s₁ → AreIframesBy view cut video t (Err e) (names_held held) (names_held held_now) log log_now s s₁
  iframes_refused e s s₁ h = record { answered = λ memory store. due_refused e (h.answered memory store); turned = h.turned; looks = late_looks s s₁ _ (length found) h.looks }

  module _ (all : all_pieces cut asked t ≡ Ok t.pieces) (shown : List Piece) (is : shown ≡ t.pieces) where
    abbrev seen : List Piece
    seen = through_first (stops known edits asked None) shown

    module _ (n : NeededPieces) (looks : AreLooks known edits asked seen (Ok n) held held_now log log_now) where
      abbrev all_checked : List CheckedPiece
      all_checked = looks.answered.0

      pub iframes_parts : (r : Result X Refusal) (ns : List ℕ) (ps : List Part) (pieces : List PlanPiece) (s s₁ s₂ s₃ : ℕ) → IsTimeline t.pieces t.parts → ps ≡ t.parts → pieces ≡ n.pieces.items → ns ≡ counts cut asked t → sum ns ≤ 100000
          → IfOk r (λ x. (cs : List CheckedPiece) → ArePiecesOfParts asked pieces cs → ns ≡ counts_over g align cs ps → AreFew (view x) (iframes_over g align cs ps))
          → IfErr r (λ e. e ≢ NoMemory → (cs : List CheckedPiece) → ArePiecesOfParts asked pieces cs → ns ≡ counts_over g align cs ps → AreMore e (iframes_over g align cs ps))
          → s₁ ≤ s + 1280 * (looked_count known edits asked seen * tracks_asked asked) → s₂ ≤ s₁ + 256 * (length n.pieces.items * tracks_asked asked)
          → ((cs : List CheckedPiece) (m : ℕ) → ArePiecesOfParts asked pieces cs → ns ≡ counts_over g align cs ps → Follow 0 ps m → s₃ ≤ s₂ + 1152 * m + 256 * sum ns + 256 * length (iframes_over g align cs ps))
          → AreIframesBy view cut video t r (names_held held) (names_held held_now) log log_now s s₃
      iframes_parts r ns ps pieces s s₁ s₂ s₃ h ps_is pieces_is ns_is few rows more most second last = record {
        answered = answers_unless view r (planned_iframes cut video t) (answers r rows more);
        turned = turned_of known edits g align asked t no_rows held held_now log log_now all shown is n looks r;
        looks = looks_done;
      }
        where
          parts : ArePiecesOfParts asked pieces all_checked
          parts = subst (λ (found : List PlanPiece). ArePiecesOfParts asked found all_checked) (sym pieces_is) (found_parts known edits g align asked t no_rows held held_now log log_now all shown is n looks h)

          counted : ns ≡ counts_over g align all_checked ps
          counted = ns_is ∙ counts_checked known edits g align asked t no_rows held held_now log log_now all shown is n looks ∙ ap (counts_over g align all_checked) (sym ps_is)

          over : iframes_over g align all_checked ps ≡ found
          over = ap (iframes_over g align all_checked) ps_is ∙ ap (listed_iframes g align) (sym (sources_over known edits g align asked t no_rows held held_now log log_now all shown is n looks))

          due : planned_iframes cut video t ≡ at_most_100000 found
          due = due_listed _ (planned_rows-whole cut asked t all_checked (checked_all known edits g align asked t no_rows held held_now log log_now all shown is n looks) (cells_few _ (subst (λ (ns : List ℕ). sum ns ≤ 100000) ns_is few)))

          answers : (r : Result X Refusal) → IfOk r (λ x. (cs : List CheckedPiece) → ArePiecesOfParts asked pieces cs → ns ≡ counts_over g align cs ps → AreFew (view x) (iframes_over g align cs ps))
              → IfErr r (λ e. e ≢ NoMemory → (cs : List CheckedPiece) → ArePiecesOfParts asked pieces cs → ns ≡ counts_over g align cs ps → AreMore e (iframes_over g align cs ps)) → Answers view r (planned_iframes cut video t)
          answers (Ok x) rows more = let h = subst (AreFew (view x)) over (rows all_checked parts counted) in due ∙ few_found found h.1 ∙ ap Ok (sym h.0)
          answers (Err e) rows more = λ other. (let h = subst (AreMore e) over (more other all_checked parts counted) in due ∙ more_found found h.0 ∙ ap Err (sym h.1))

          looks_done : s₃ ≤ s + (rows_bound cut asked t) + 1024 * length found
          looks_done =
              let follow = subst (λ (ps : List Part). Follow 0 ps (length t.pieces)) (sym ps_is) h.follow in
              let many = ap (λ (rows : List IframeRow). length rows) over in
              let cells = ap sum ns_is in
              let seen_is = count_is known edits g align asked t no_rows held held_now log log_now all shown is n looks in
              let found_is = many_found known edits g align asked t no_rows held held_now log log_now all shown is n looks in
              let bound = bound_is known edits g align asked t no_rows held held_now log log_now all shown is in
              subst (λ (b : ℕ). s₃ ≤ s + b + 1024 * length found) (sym bound)
              (found_looks s s₁ s₂ s₃ (looked_count known edits asked seen) (length n.pieces.items) (length t.pieces) (sum ns) (sum (counts cut asked t)) (length (iframes_over g align all_checked ps)) (length found)
              most second (last all_checked (length t.pieces) parts counted follow) seen_is found_is cells many)
