-- The rows of I-frames that stand in one list.
use Rattle.std.proofs.Common.{◌≡◌, ℕ, suc, ◌+◌, ◌<◌, ◌≤◌, Bool, true, false, cond, not, nat_eq, List, [], ◌∷◌, ◌++◌, length, map, ℤ, slice_get, refl, sym, ap, ap₂, ◌∙◌, arith}
use Rattle.std.specs.List.{flat_map, enumerate_from}
use Rattle.std.specs.Prelude.{IfErr, IfOk, Result, Ok, Err}
use Rattle.std.proofs.lemmas.List.{take_all}
use Rattle.vod_types.specs.declared.refusal.Refusal.TheVariants.{TooManyIframes}
use Rattle.vod_plan.specs.declared.iframe_marks.Marks.{Marks}
use Rattle.std.proofs.lemmas.Bool.Decides.{nat_tests}
use Rattle.vod_types.specs.declared.segments.IframeRow.{IframeRow}
use Rattle.segment_model.specs.Cut.{start_of}
use Rattle.segment_model.specs.Grid.{SegmentGrid}
use Rattle.segment_model.specs.Iframes.{Iframe, PartIframes, iframe_row, iframe_rows, iframes, listed_iframes, listed_part_iframes}
use Rattle.segment_model.specs.Timeline.{SourcePart}
use Rattle.vod_plan.specs.declared.iframe_marks.Mark.{Mark}
use Rattle.vod_plan.specs.IframeMarks.{mark_at, marks_from, row_of_mark, rows_of_marks, AreAll}

-- ---- the I-frames of parts

-- a number of a part, or a later one
abbrev AtLeast : ℕ → List Mark → Type 0
AtLeast part [] = Unit {0}
AtLeast part (m ∷ later) = part ≤ m.part

later_parts : (part n : ℕ) (ps : List PartIframes) → part ≤ n → AtLeast part (marks_from n ps)
later_parts part n [] le = tt
later_parts part n (p ∷ ps) le = own p.iframes (later_parts part (n + 1) ps (omega (arith, le)))
  where
    own : (is : List Iframe) → AtLeast part (marks_from (n + 1) ps) → AtLeast part (map (mark_at n p.end) is ++ marks_from (n + 1) ps)
    own [] later = later
    own (i ∷ is) later = le

same_part : (n : ℕ) → nat_eq n n ≡ true
same_part n = grind (arith, nat_tests)

later_part : (m n : ℕ) → n < m → nat_eq m n ≡ false
later_part m n lt = grind (arith, nat_tests)

abbrev row_ending : ℕ → Iframe → Bool → ℤ → IframeRow
row_ending part i first end = record (iframe_row part end i) { first_in_part = first }

-- an I-frame ends where the next one of its part begins
own_end : (n : ℕ) (end : ℤ) (i : Iframe) (is : List Iframe) (later : List Mark) (first : Bool) → AtLeast (suc n) later
    → row_of_mark (mark_at n end i) (slice_get (map (mark_at n end) is ++ later) 0) first ≡ row_ending n i first (start_of end (map (λ l. l.row) is))
own_end n end i [] [] first h = refl
own_end n end i [] (m ∷ later) first h = ap (λ b. row_ending n i first (cond b m.start end)) (later_part m.part n h)
own_end n end i (next ∷ is) later first h = ap (λ b. row_ending n i first (cond b next.row.place end)) (same_part n)

own_rows : (n : ℕ) (end : ℤ) (is : List Iframe) (later : List Mark) → AtLeast (suc n) later → rows_of_marks n (map (mark_at n end) is ++ later) ≡ iframe_rows n end is ++ rows_of_marks n later
own_rows n end [] later h = refl
own_rows n end (i ∷ is) later h =
    ap₂ (λ (row : IframeRow) (rows : List IframeRow). row ∷ rows)
    (own_end n end i is later (not (nat_eq n n)) h ∙ ap (λ b. row_ending n i (not b) (start_of end (map (λ l. l.row) is))) (same_part n))
    (own_rows n end is later h)

-- the rows behind those of an earlier part, or of none
rows_of_parts : (before n : ℕ) (ps : List PartIframes) → before < n → rows_of_marks before (marks_from n ps) ≡ flat_map listed_part_iframes (enumerate_from n ps)
rows_of_parts before n [] lt = refl
rows_of_parts before n (p ∷ ps) lt = own p.iframes (rows_of_parts before (n + 1) ps (omega (arith, lt))) (rows_of_parts n (n + 1) ps (omega arith))
  where
    own : (is : List Iframe) → rows_of_marks before (marks_from (n + 1) ps) ≡ flat_map listed_part_iframes (enumerate_from (n + 1) ps) → rows_of_marks n (marks_from (n + 1) ps) ≡ flat_map listed_part_iframes (enumerate_from (n + 1) ps)
        → rows_of_marks before (map (mark_at n p.end) is ++ marks_from (n + 1) ps) ≡ listed_part_iframes (n, record { end = p.end; iframes = is }) ++ flat_map listed_part_iframes (enumerate_from (n + 1) ps)
    own [] none later = none
    own (i ∷ is) none later =
        let after : AtLeast (suc n) (marks_from (n + 1) ps) = later_parts (suc n) (n + 1) ps (omega arith) in
        ap₂ (λ (row : IframeRow) (rows : List IframeRow). row ∷ rows)
        (own_end n p.end i is (marks_from (n + 1) ps) (not (nat_eq n before)) after
        ∙ ap (λ b. row_ending n i (not b) (start_of p.end (map (λ l. l.row) is))) (later_part n before lt))
        (own_rows n p.end is (marks_from (n + 1) ps) after ∙ ap (λ (rows : List IframeRow). iframe_rows n p.end is ++ rows) later)

length-rows : (part : ℕ) (marks : List Mark) → length (rows_of_marks part marks) ≡ length marks
length-rows part [] = refl
length-rows part (m ∷ marks) = ap suc (length-rows m.part marks)

-- the rows of the I-frames of all parts are those that are listed, as many
pub listed_of_marks : (g : SegmentGrid) (align : Bool) (ps : List SourcePart) (marks : List Mark) → marks ≡ marks_from 1 (iframes g align ps)
    → (rows_of_marks 0 marks ≡ listed_iframes g align ps) × (length marks ≡ length (listed_iframes g align ps))
listed_of_marks g align ps marks e =
    let rows : rows_of_marks 0 marks ≡ listed_iframes g align ps = ap (rows_of_marks 0) e ∙ rows_of_parts 0 1 (iframes g align ps) (omega arith) in
    (rows, sym (length-rows 0 marks) ∙ ap (λ (rows : List IframeRow). length rows) rows)

-- ---- all that were counted, and those that were kept

pub kept_rows : (all : List Mark) (m : Marks) → AreAll all m → m.count ≤ 100000 → (rows : List IframeRow) → rows ≡ rows_of_marks 0 m.kept.items → (rows ≡ rows_of_marks 0 all) × (length all ≤ 100000)
kept_rows all m is few rows e =
    let less : length all ≤ 100000 = omega (arith, is.count, few) in
    (e ∙ ap (rows_of_marks 0) (is.kept ∙ take_all 100000 all less), less)

pub more_rows : (all : List Mark) (m : Marks) → AreAll all m → 100000 < m.count → (100000 < length all) × (TooManyIframes m.count ≡ TooManyIframes (length all))
more_rows all m is many = (omega (arith, is.count, many), ap TooManyIframes is.count)

pub ok_all : {A E : Type 0} (r : Result A E) (P Q : A → Type 0) → IfOk r P → ((x : A) → P x → Q x) → IfOk r Q
ok_all (Ok x) P Q h all = all x h
ok_all (Err e) P Q h all = tt

pub err_all : {A E : Type 0} (r : Result A E) (P Q : E → Type 0) → IfErr r P → ((e : E) → P e → Q e) → IfErr r Q
err_all (Ok x) P Q h all = tt
err_all (Err e) P Q h all = all e h
