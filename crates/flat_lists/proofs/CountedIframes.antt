-- The I-frames of a sequence: what is due, and what is read for it.
use Rattle.std.proofs.Common.{◌≡◌, ◌≢◌, ℕ, ◌<◌, ◌≤◌, Bool, List, [], length, map, Option, IfOk, IfErr, Result, Ok, Err, refl, sym, ap, ◌∙◌, subst, arith}
use Rattle.std.specs.Prelude.{nat_lt, sum}
use Rattle.std.specs.Bool.{then_some}
use Rattle.std.proofs.lemmas.Bool.{lt-ltb, le-ltb}
use Rattle.vod_types.specs.declared.refusal.Refusal.{Refusal}
use Rattle.vod_types.specs.declared.refusal.Refusal.TheVariants.{NoMemory, TooManyIframes}
use Rattle.vod_types.specs.declared.segments.IframeRow.{IframeRow}
use Rattle.vod_types.specs.declared.tracks.Asked.{Asked}
use Rattle.vod_types.specs.Results.{◌>>◌, Answers, unless}
use Rattle.vod_types.specs.Tracks.{video_alone}
use Rattle.clip_model.specs.Timeline.{Timeline}
use Rattle.segment_model.specs.Grid.{SegmentGrid, cell_counts}
use Rattle.segment_model.specs.Iframes.{iframes, listed_iframes}
use Rattle.segment_model.specs.Listing.{ListedSegment}
use Rattle.vod_source.specs.Calls.{Came}
use Rattle.vod_source.specs.Stored.{Files, Read}
use Rattle.vod_source.specs.Told.{told_with}
use Rattle.vod_source.proofs.CallLemmas.{came-read}
use Rattle.origin_model.specs.Iframes.{planned_iframes}
use Rattle.origin_model.specs.Loaded.{CheckedPiece}
use Rattle.origin_model.specs.Plans.{Cutting, all_pieces, counts, pieces_or_none, planned_rows}
use Rattle.origin_model.specs.Reads.{turns}
use Rattle.origin_model.specs.Sources.{source_parts, source_piece}
use Rattle.origin_model.proofs.Entries.{planned_rows-whole}
use Rattle.flat_segments.specs.Needed.{AreLooks, AreNeeded, looked_names}
use Rattle.flat_segments.specs.Planned.{cutting_of}
use Rattle.flat_segments.specs.declared.needed.Needed.{Needed}
use Rattle.flat_segments.proofs.Counts.{sources_are}
use Rattle.flat_lists.specs.declared.iframe_marks.Mark.{Mark}
use Rattle.flat_lists.specs.declared.iframes.Counted.{Counted}
use Rattle.flat_lists.specs.Counted.{AreFew, AreMore, CountedAt, OfIframes}
use Rattle.flat_lists.specs.ListedParts.{part_over}
use Rattle.flat_lists.specs.Listings.{rows_turns}
use Rattle.flat_lists.specs.Marks.{marks_from, rows_of_marks}
use Rattle.flat_lists.proofs.ListedTimelines.{came_listed, cells_few, parts_are, pieces_are}
use Rattle.flat_lists.proofs.MarkedRows.{listed_of_marks}

-- the marks are those of the parts
abbrev pub OfMarks : SegmentGrid → Bool → Timeline → Counted → List Mark → Type 0
OfMarks g align t c marks =
    (all : List CheckedPiece) → map (λ c. c.piece) all ≡ t.pieces → AreNeeded all c.needed → c.counts.items ≡ cell_counts g align (map (part_over (map source_piece all)) t.parts)
    → marks ≡ marks_from 1 (iframes g align (map (part_over (map source_piece all)) t.parts))

-- ---- memory ran out behind the looks

pub counted-no_memory : (known : Files) (g : SegmentGrid) (align edits : Bool) (asked : Asked) (t : Timeline) (log log_now : Option (List Read)) (n : Needed) (ns : List ℕ) → all_pieces (cutting_of known g align edits) asked t ≡ Ok t.pieces
    → AreLooks known edits asked t.pieces (Ok n) log log_now → sum (counts (cutting_of known g align edits) asked t) ≤ 100000 → ns ≡ counts (cutting_of known g align edits) asked t
    → CountedAt known g align edits asked t (Err NoMemory) log log_now
counted-no_memory known g align edits asked t log log_now n ns all looks few ns_are =
    came_listed known g align edits asked t (λ (rows : List ListedSegment). rows) log log_now all n looks (Err NoMemory) ns few ns_are tt refl

-- ---- few I-frames, or too many

abbrev at_most_100000 : List IframeRow → Result (List IframeRow) Refusal
at_most_100000 found = unless (then_some (nat_lt 100000 (length found)) (TooManyIframes (length found))) >> Ok found

few_found : (found : List IframeRow) → length found ≤ 100000 → at_most_100000 found ≡ Ok found
few_found found few = ap (λ b. unless (then_some b (TooManyIframes (length found))) >> Ok found) (le-ltb 100000 (length found) few)

more_found : (found : List IframeRow) → 100000 < length found → at_most_100000 found ≡ Err (TooManyIframes (length found))
more_found found more = ap (λ b. unless (then_some b (TooManyIframes (length found))) >> Ok found) (lt-ltb 100000 (length found) more)

-- ---- what is due

module _ (known : Files) (g : SegmentGrid) (align edits : Bool) (video : ℕ) (t : Timeline) where
  abbrev cut : Cutting
  cut = cutting_of known g align edits

  abbrev found : List IframeRow
  found = listed_iframes g align (source_parts known edits (video_alone video) t)

  due_listed : (ls : List ListedSegment) → planned_rows cut (video_alone video) t ≡ Ok ls → planned_iframes cut video t ≡ at_most_100000 found
  unfolding planned_iframes
  due_listed ls listed = rw listed refl

  due_refused : (e : Refusal) → planned_rows cut (video_alone video) t ≡ Err e → planned_iframes cut video t ≡ Err e
  unfolding planned_iframes
  due_refused e refused = rw refused refl

  module _ {X : Type 0} (view : X → List IframeRow) (log log_now : Option (List Read)) where
    pub iframes-refused : (e : Refusal) → CountedAt known g align edits (video_alone video) t (Err e) log log_now → Came view (Err e) (planned_iframes cut video t) (rows_turns cut (video_alone video) t) log log_now
    iframes-refused e came = record { answered = λ known_memory known_store. due_refused e (came.answered known_memory known_store); logged = came.logged }

    pub iframes-counted : (c : Counted) → CountedAt known g align edits (video_alone video) t (Ok c) log log_now → (result : Result X Refusal)
        → IfOk result (λ x. OfIframes g align t c (AreFew (view x))) → IfErr result (λ e. e ≢ NoMemory → OfIframes g align t c (AreMore e))
        → Came view result (planned_iframes cut video t) (rows_turns cut (video_alone video) t) log log_now
    iframes-counted c is result few more =
        came-read view (planned_iframes cut video t) (rows_turns cut (video_alone video) t) log log_now result (answers result few more) (is.looks.logged ∙ ap (told_with log) (sym reads))
      where
        reads : rows_turns cut (video_alone video) t ≡ (turns known [] (looked_names known edits (video_alone video) t.pieces)).reads
        reads = ap (λ r. (turns known [] (looked_names known edits (video_alone video) (pieces_or_none r))).reads) is.all

        due : planned_iframes cut video t ≡ at_most_100000 found
        due = due_listed _ (planned_rows-whole cut (video_alone video) t is.looks.answered.all is.looks.answered.checked (cells_few _ is.few))

        of : (P : List IframeRow → Type 0) → OfIframes g align t c P → P found
        of P all =
            let looked = is.looks.answered in
            let sources = parts_are known edits (video_alone video) t looked.all (sources_are known edits (video_alone video) t.pieces looked.all looked.checked) in
            subst (λ ps. P (listed_iframes g align ps)) (sym sources) (all looked.all (pieces_are known edits (video_alone video) t.pieces looked.all looked.checked) looked.needed (is.counts_are ∙ ap (cell_counts g align) sources))

        answers : (result : Result X Refusal) → IfOk result (λ x. OfIframes g align t c (AreFew (view x))) → IfErr result (λ e. e ≢ NoMemory → OfIframes g align t c (AreMore e))
            → Answers view result (planned_iframes cut video t)
        answers (Ok x) few more = let h = of (AreFew (view x)) few in due ∙ few_found found h.1 ∙ ap Ok (sym h.0)
        answers (Err e) few more = λ other. (let h = of (AreMore e) (more other) in due ∙ more_found found h.0 ∙ ap Err (sym h.1))

-- ---- the I-frames of the parts in one list

module _ (g : SegmentGrid) (align : Bool) (t : Timeline) (c : Counted) (marks : List Mark) (marks_are : OfMarks g align t c marks) where
  pub marks-few : (rows : List IframeRow) → (rows ≡ rows_of_marks 0 marks) × (length marks ≤ 100000) → OfIframes g align t c (AreFew rows)
  marks-few rows few = λ all of needed counts.
      let is = listed_of_marks g align (map (part_over (map source_piece all)) t.parts) marks (marks_are all of needed counts) in
      (few.0 ∙ is.0, omega (arith, is.1, few.1))

  pub marks-more : (e : Refusal) → (100000 < length marks) × (e ≡ TooManyIframes (length marks)) → OfIframes g align t c (AreMore e)
  marks-more e more = λ all of needed counts.
      let is = listed_of_marks g align (map (part_over (map source_piece all)) t.parts) marks (marks_are all of needed counts) in
      (omega (arith, is.1, more.0), more.1 ∙ ap TooManyIframes is.1)

pub err_all : {A E : Type 0} (r : Result A E) (P Q : E → Type 0) → IfErr r P → ((e : E) → P e → Q e) → IfErr r Q
err_all (Ok x) P Q h all = tt
err_all (Err e) P Q h all = all e h
