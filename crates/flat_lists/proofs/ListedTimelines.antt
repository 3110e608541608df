-- The listed segments of a sequence: what is due, and what is read for it.
use Rattle.std.proofs.Common.{◌≡◌, ℕ, ◌+◌, ◌-◌, ◌<◌, ◌≤◌, ◌^◌, Bool, true, false, List, [], ◌∷◌, length, map, take, drop, ℤ, pos, Option, Some, None, IfNone, IfOk, IfErr, Result, Ok, Err, slice_get, slice_range, All, refl, sym, ap, ap₂, ◌∙◌, subst, arith}
use Rattle.std.specs.Prelude.{sum, unwrap_or}
use Rattle.std.specs.Bool.{then_some}
use Rattle.std.specs.Result.{result_unwrap_or}
use Rattle.std.proofs.lemmas.Bool.{lt-ltb, le-ltb}
use Rattle.std.proofs.lemmas.List.{length-map, take_all}
use Rattle.std.proofs.lemmas.List.Elements.{All-cons, All-nil, All-head}
use Rattle.std.proofs.lemmas.Option.{same_Some}
use Rattle.vod_types.specs.declared.refusal.Refusal.{Refusal}
use Rattle.vod_types.specs.declared.refusal.Refusal.TheVariants.{NoMemory, TooManySegments}
use Rattle.vod_types.specs.declared.tracks.Asked.{Asked}
use Rattle.vod_types.specs.Lists.{through_first}
use Rattle.vod_types.specs.Results.{◌>>=◌, Answers, each_in_turn, unless}
use Rattle.vod_types.specs.Tracks.{lead_of}
use Rattle.vod_types.proofs.StepLemmas.{bind_ok}
use Rattle.vod_types.proofs.RuleLemmas.{same_ok}
use Rattle.clip_model.specs.declared.Part.{Part}
use Rattle.clip_model.specs.declared.Piece.{Piece}
use Rattle.clip_model.specs.IsTimeline.{Follow, IsTime, IsTimeline, OpenLength}
use Rattle.clip_model.specs.Timeline.{Timeline}
use Rattle.segment_model.specs.Cut.{listed}
use Rattle.segment_model.specs.Grid.{SegmentGrid, cell_counts, cells, length_of, milliseconds}
use Rattle.segment_model.specs.Laws.{AreTimelineRows}
use Rattle.segment_model.specs.Listing.{ListedSegment}
use Rattle.segment_model.specs.Rows.{TimedRow}
use Rattle.segment_model.specs.Timeline.{SourcePiece, SourcePart, TrackRows, lead_end, timeline}
use Rattle.segment_model.proofs.Timelines.{timeline_is}
use Rattle.vod_source.specs.Stored.{Files, Read}
use Rattle.vod_source.specs.Told.{told_with}
use Rattle.origin_model.specs.Loaded.{CheckedPiece, checked, unread_piece}
use Rattle.origin_model.specs.Plans.{Cutting, all_pieces, counts, few_cells, pieces_or_none, planned_rows}
use Rattle.origin_model.specs.Reads.{turns}
use Rattle.origin_model.specs.Sources.{is_declared, part_pieces, source_of, source_part, source_parts, source_piece}
use Rattle.origin_model.proofs.Entries.{planned_rows-whole}
use Rattle.origin_model.proofs.NeededFiles.{piece_of-checked}
use Rattle.origin_model.proofs.PieceOrder.{undeclared_part}
use Rattle.origin_model.proofs.WritablePlans.{pieces_from_zero}
use Rattle.flat_segments.specs.declared.needed.Needed.{Needed}
use Rattle.vod_source.specs.Calls.{Came, LogsReads}
use Rattle.flat_lists.specs.ListedParts.{part_over, AreRowsOfParts}
use Rattle.flat_lists.specs.Listings.{rows_turns}
use Rattle.flat_segments.specs.Needed.{AreLooks, AreNeeded, looked_names, stops}
use Rattle.flat_segments.specs.Planned.{cutting_of, declared_counts}
use Rattle.flat_samples.specs.Rows.{part_rows, IsPlacedRow}
use Rattle.vod_source.proofs.CallLemmas.{came-read, came-unread}
use Rattle.flat_samples.proofs.ListViews.{slice_range-map}
use Rattle.flat_segments.proofs.Places.{follow-order}
use Rattle.flat_segments.proofs.Counts.{counts_are, count_low, one_low, seen_none, sources_are}

-- ---- few cells, or too many

pub cells_many : (all cells : ℕ) → all ≡ cells → 100000 < all → few_cells cells ≡ Err (TooManySegments all)
unfolding few_cells
cells_many all cells e many =
    ap (λ b. unless (then_some b (TooManySegments cells))) (lt-ltb 100000 cells (omega (arith, e, many))) ∙ ap (λ n. Err (TooManySegments n)) (sym e)

pub cells_few : (cells : ℕ) → cells ≤ 100000 → few_cells cells ≡ Ok tt
unfolding few_cells
cells_few cells few = ap (λ b. unless (then_some b (TooManySegments cells))) (le-ltb 100000 cells few)

-- ---- the number of cells of a part whose length is not declared

pub count_small : (g : SegmentGrid) (start : ℤ) (rows : List TimedRow) (count : ℕ) → count ≡ cells g (milliseconds (lead_end start rows)) → IsTime start → All IsPlacedRow rows
    → All (λ n. n ≤ 2 ^ 42) (count ∷ [])
count_small g start rows count e time placed = one_low count (omega (arith, e, count_low g start rows time placed))

-- ---- the pieces of the parts

pub all_within : (at : ℕ) (parts : List Part) (end : ℕ) → Follow at parts end → end ≤ 1024 → All (λ part. part.first + part.count ≤ 1024) parts
all_within at [] end h few = All-nil (λ part. part.first + part.count ≤ 1024)
all_within at (p ∷ ps) end h few =
    All-cons (λ part. part.first + part.count ≤ 1024) p ps (omega (arith, h.0, few, follow-order (at + p.count) ps end h.1)) (all_within (at + p.count) ps end h.1 few)

pub parts_within : (t : Timeline) (ps : List Part) → IsTimeline t.pieces t.parts → ps ≡ t.parts → All (λ part. part.first + part.count ≤ 1024) ps
parts_within t ps h e = subst (All (λ (part : Part). part.first + part.count ≤ 1024)) (sym e) (all_within 0 t.parts (length t.pieces) h.follow h.piece_count)

-- the rows of each part keep their order
parts_order : (t : Timeline) (all : List CheckedPiece) → IsTimeline t.pieces t.parts → map (λ c. c.piece) all ≡ t.pieces → (part : Part) → AreTimelineRows (pos 0) (timeline (part_over (map source_piece all) part).pieces)
parts_order t all h are part =
    let own = slice_range all part.first (part.first + part.count) in
    let of : map (λ c. c.piece) own ≡ take (length (part_pieces t part)) (drop 0 (part_pieces t part)) =
    slice_range-map (λ c. c.piece) part.first (part.first + part.count) all ∙ ap (λ ps. slice_range ps part.first (part.first + part.count)) are
    ∙ sym (take_all (length (part_pieces t part)) (part_pieces t part) (omega arith)) in
    subst (λ ps. AreTimelineRows (pos 0) (timeline ps)) (slice_range-map source_piece part.first (part.first + part.count) all)
    (timeline_is 0 (pos 0) (map source_piece own) (pieces_from_zero t part 0 (length (part_pieces t part)) own h of))

pub rows_of_parts : (g : SegmentGrid) (align : Bool) (t : Timeline) (ps : List Part) (ns : List ℕ) (n : Needed) (rows : TrackRows) (all : List CheckedPiece) → IsTimeline t.pieces t.parts → ps ≡ t.parts → rows ≡ part_rows n.rows
    → map (λ c. c.piece) all ≡ t.pieces → AreNeeded all n → ns ≡ cell_counts g align (map (part_over (map source_piece all)) t.parts)
    → AreRowsOfParts g align ps ns rows (map source_piece all)
rows_of_parts g align t ps ns n rows all h parts_are rows_are of needed counts_are = record {
  rows_are = rows_are ∙ needed.rows;
  follow = subst (λ (ps : List Part). Follow 0 ps (length (map source_piece all))) (sym parts_are)
      (subst (Follow 0 t.parts) (ap (λ (ps : List Piece). length ps) (sym of) ∙ length-map all (λ c. c.piece) ∙ sym (length-map all source_piece)) h.follow);
  counts_are = counts_are ∙ ap (λ (ps : List Part). cell_counts g align (map (part_over (map source_piece all)) ps)) (sym parts_are);
  order = parts_order t all h of;
}

-- ---- checked pieces

pub ok_all : {A E : Type 0} (r : Result A E) (P Q : A → Type 0) → IfOk r P → ((x : A) → P x → Q x) → IfOk r Q
ok_all (Ok x) P Q h all = all x h
ok_all (Err e) P Q h all = tt

module _ (known : Files) (edits : Bool) (asked : Asked) where
  piece_is : (p : Piece) (c : CheckedPiece) → checked known edits asked p ≡ Ok c → c.piece ≡ p
  piece_is p c e = ap (λ r. (result_unwrap_or r (unread_piece p)).piece) (sym e) ∙ piece_of-checked known edits asked p

  pub pieces_are : (ps : List Piece) (cs : List CheckedPiece) → each_in_turn (checked known edits asked) ps ≡ Ok cs → map (λ c. c.piece) cs ≡ ps
  pieces_are [] cs e = ap (map (λ c. c.piece)) (let none : cs ≡ [] = sym (same_ok [] cs e) in none)
  pieces_are (p ∷ ps) cs e =
      let first = bind_ok (checked known edits asked p) (λ c. each_in_turn (checked known edits asked) ps >>= λ ds. Ok (c ∷ ds)) cs e in
      let rest = bind_ok (each_in_turn (checked known edits asked) ps) (λ ds. Ok (first.0 ∷ ds)) cs first.2 in
      ap (map (λ c. c.piece)) (sym (same_ok (first.0 ∷ rest.0) cs rest.2)) ∙ ap₂ (λ (q : Piece) (qs : List Piece). q ∷ qs) (piece_is p first.0 first.1) (pieces_are ps rest.0 rest.1)

  pub looks_at_all : (shown pieces : List Piece) (result : Result Needed Refusal) (log log_now : Option (List Read)) → shown ≡ pieces → AreLooks known edits asked (through_first (stops known edits asked None) shown) result log log_now
      → AreLooks known edits asked pieces result log log_now
  looks_at_all shown pieces result log log_now e looks =
      subst (λ (ps : List Piece). AreLooks known edits asked ps result log log_now) (seen_none known edits asked shown ∙ e) looks

  module _ (t : Timeline) (all : List CheckedPiece) (are : map (source_of known edits asked) t.pieces ≡ map source_piece all) where
    part_is : (part : Part) → source_part known edits asked t part ≡ part_over (map source_piece all) part
    unfolding source_part
    part_is part =
        ap (λ (ps : List SourcePiece). let q : SourcePart = record { start = part.start; length_ms = part.length_ms; pieces = ps } in q)
        (slice_range-map (source_of known edits asked) part.first (part.first + part.count) t.pieces ∙ ap (λ (ps : List SourcePiece). slice_range ps part.first (part.first + part.count)) are)

    pub parts_are : source_parts known edits asked t ≡ map (part_over (map source_piece all)) t.parts
    parts_are = each t.parts
      where
        each : (parts : List Part) → map (source_part known edits asked t) parts ≡ map (part_over (map source_piece all)) parts
        each [] = refl
        each (p ∷ ps) = ap₂ (λ (q : SourcePart) (qs : List SourcePart). q ∷ qs) (part_is p) (each ps)

-- ---- what is due

module _ (known : Files) (g : SegmentGrid) (align edits : Bool) (asked : Asked) (t : Timeline) where
  abbrev cut : Cutting
  cut = cutting_of known g align edits

  abbrev due : Result (List ListedSegment) Refusal
  due = planned_rows cut asked t

  abbrev all_cells : ℕ
  all_cells = sum (counts cut asked t)

  pub all_many : (e : Refusal) → is_declared t ≡ true → few_cells all_cells ≡ Err e → all_pieces cut asked t ≡ Err e
  unfolding all_pieces
  all_many e declared many = rw declared (rw many refl)

  all_few : is_declared t ≡ true → few_cells all_cells ≡ Ok tt → all_pieces cut asked t ≡ Ok t.pieces
  unfolding all_pieces
  all_few declared few = rw declared (rw few refl)

  pub all_open : is_declared t ≡ false → all_pieces cut asked t ≡ Ok t.pieces
  unfolding all_pieces
  all_open declared = rw declared refl

  due_many : (e : Refusal) → all_pieces cut asked t ≡ Err e → due ≡ Err e
  unfolding planned_rows
  due_many e many = rw many refl

  due_refused : (e : Refusal) → all_pieces cut asked t ≡ Ok t.pieces → each_in_turn (checked known edits asked) t.pieces ≡ Err e → due ≡ Err e
  unfolding planned_rows
  due_refused e all refused = rw all (rw refused refl)

  due_late : (e : Refusal) (cs : List CheckedPiece) → all_pieces cut asked t ≡ Ok t.pieces → each_in_turn (checked known edits asked) t.pieces ≡ Ok cs → few_cells all_cells ≡ Err e → due ≡ Err e
  unfolding planned_rows
  due_late e cs all checked many = rw all (rw checked (rw many refl))

  no_reads : (turns known [] []).reads ≡ []
  unfolding turns
  no_reads = refl

  reads_none : (e : Refusal) → all_pieces cut asked t ≡ Err e → rows_turns cut asked t ≡ []
  reads_none e many = ap (λ (r : Result (List Piece) Refusal). (turns known [] (looked_names known edits asked (pieces_or_none r))).reads) many ∙ no_reads

  reads_all : all_pieces cut asked t ≡ Ok t.pieces → rows_turns cut asked t ≡ (turns known [] (looked_names known edits asked t.pieces)).reads
  reads_all all = ap (λ (r : Result (List Piece) Refusal). (turns known [] (looked_names known edits asked (pieces_or_none r))).reads) all

  module _ {X : Type 0} (view : X → List ListedSegment) (log : Option (List Read)) where
    -- too many cells are declared
    pub came_many : (e : Refusal) → all_pieces cut asked t ≡ Err e → Came view (Err e) due (rows_turns cut asked t) log log
    came_many e many = subst (λ (reads : List Read). Came view (Err e) due reads log log) (sym (reads_none e many)) (came-unread view due log (Err e) (λ other. due_many e many))

    module _ (log_now : Option (List Read)) (all : all_pieces cut asked t ≡ Ok t.pieces) where
      -- a piece is refused
      pub came_refused : (e : Refusal) → AreLooks known edits asked t.pieces (Err e) log log_now → Came view (Err e) due (rows_turns cut asked t) log log_now
      came_refused e looks = record {
        answered = λ known_memory known_store. due_refused e all (looks.answered known_memory known_store);
        logged = subst (λ (reads : List Read). LogsReads {X = X} (Err e) reads log log_now) (sym (reads_all all)) looks.logged;
      }

      module _ (n : Needed) (looks : AreLooks known edits asked t.pieces (Ok n) log log_now) where
        -- there are too many cells
        pub came_late : (e : Refusal) → few_cells all_cells ≡ Err e → Came view (Err e) due (rows_turns cut asked t) log log_now
        came_late e many =
            came-read view due (rows_turns cut asked t) log log_now (Err e) (λ other. due_late e looks.answered.all all looks.answered.checked many) (looks.logged ∙ ap (told_with log) (sym (reads_all all)))

        -- all are listed
        pub came_listed : (result : Result X Refusal) (ns : List ℕ) → all_cells ≤ 100000 → ns ≡ counts cut asked t
            → IfOk result (λ out. (all : List CheckedPiece) → map (λ c. c.piece) all ≡ t.pieces → AreNeeded all n → ns ≡ cell_counts g align (map (part_over (map source_piece all)) t.parts)
            → view out ≡ listed (lead_of asked) g align (map (part_over (map source_piece all)) t.parts))
            → IfErr result (λ refusal. refusal ≡ NoMemory) → Came view result due (rows_turns cut asked t) log log_now
        came_listed result ns few ns_are listed_are only =
            came-read view due (rows_turns cut asked t) log log_now result (answers result listed_are only) (looks.logged ∙ ap (told_with log) (sym (reads_all all)))
          where
            answers : (result : Result X Refusal) → IfOk result (λ out. (all : List CheckedPiece) → map (λ c. c.piece) all ≡ t.pieces → AreNeeded all n → ns ≡ cell_counts g align (map (part_over (map source_piece all)) t.parts)
                → view out ≡ listed (lead_of asked) g align (map (part_over (map source_piece all)) t.parts))
                → IfErr result (λ refusal. refusal ≡ NoMemory) → Answers view result due
            answers (Err e) listed_are only = λ other. absurd (other only)
            answers (Ok out) listed_are only =
                let found = looks.answered in
                let sources = parts_are known edits asked t found.all (sources_are known edits asked t.pieces found.all found.checked) in
                planned_rows-whole cut asked t found.all found.checked (cells_few all_cells few)
                ∙ ap Ok (ap (listed (lead_of asked) g align) sources ∙ sym (listed_are found.all (pieces_are known edits asked t.pieces found.all found.checked) found.needed (ns_are ∙ ap (cell_counts g align) sources)))

  -- ---- where all lengths are declared

  pub counts_by : is_declared t ≡ true → counts cut asked t ≡ declared_counts g t.parts
  counts_by declared = counts_are known edits g align asked t declared

  pub declared_few : (ns : List ℕ) → is_declared t ≡ true → ns ≡ declared_counts g t.parts → sum ns ≤ 100000 → (all_cells ≤ 100000) × (all_pieces cut asked t ≡ Ok t.pieces)
  declared_few ns declared e few =
      let same : all_cells ≡ sum ns = ap sum (counts_by declared ∙ sym e) in
      let small : all_cells ≤ 100000 = omega (arith, same, few) in
      (small, all_few declared (cells_few all_cells small))

  pub declared_many : (ns : List ℕ) (e : Refusal) → is_declared t ≡ true → ns ≡ declared_counts g t.parts → few_cells (sum ns) ≡ Err e → all_pieces cut asked t ≡ Err e
  declared_many ns e declared ns_are many = all_many e declared (ap (λ (ns : List ℕ). few_cells (sum ns)) (counts_by declared ∙ sym ns_are) ∙ many)

-- ---- one part whose length isn't declared

one_part : (all : List Part) (part : Part) → All (OpenLength all) all → slice_get all 0 ≡ Some part → part.length_ms ≡ None → all ≡ part ∷ []
one_part [] part each at unknown = absurd cc
one_part (p ∷ ps) part each at unknown =
    let same : p ≡ part = same_Some p part at in
    let alone = subst (λ (o : Option ℕ). IfNone o ((length (p ∷ ps) ≡ 1) × (p.count ≡ 1) × (p.start ≡ pos 0))) (ap (λ (q : Part). q.length_ms) same ∙ unknown) (All-head (OpenLength (p ∷ ps)) p ps each) in
    none p ps part same alone.0
  where
    none : (p : Part) (ps : List Part) (part : Part) → p ≡ part → length (p ∷ ps) ≡ 1 → p ∷ ps ≡ part ∷ []
    none p [] part e one = ap (λ (q : Part). q ∷ []) e
    none p (q ∷ qs) part e one = absurd (omega (arith, one))

module _ (t : Timeline) (part : Part) (h : IsTimeline t.pieces t.parts) (undeclared : is_declared t ≡ false) (at : slice_get t.parts 0 ≡ Some part) where
  no_length : part.length_ms ≡ None
  no_length = (undeclared_part t 0 part h undeclared at).0

  only_part : t.parts ≡ part ∷ []
  only_part = one_part t.parts part h.open_lengths at no_length

  pub one_count : (count : ℕ) → length (count ∷ []) ≡ length t.parts
  one_count count = ap (λ (ps : List Part). length ps) (sym only_part)

  whole : {X : Type 0} (xs : List X) → length xs ≡ length t.pieces → slice_range xs part.first (part.first + part.count) ≡ xs
  whole xs many =
      let follow = subst (λ (ps : List Part). Follow 0 ps (length t.pieces)) only_part h.follow in
      let count : part.first + part.count - part.first ≡ length xs = omega (arith, many, follow.0, follow.1) in
      ap₂ (λ n i. take n (drop i xs)) count follow.0 ∙ take_all (length xs) xs (omega arith)

  count_over : (g : SegmentGrid) (align : Bool) (pieces : List SourcePiece) → length pieces ≡ length t.pieces
      → cells g (milliseconds (lead_end part.start (timeline pieces).lead)) ∷ [] ≡ cell_counts g align (map (part_over pieces) t.parts)
  unfolding length_of
  count_over g align pieces many =
      ap₂ (λ (o : Option ℕ) (ps : List SourcePiece). cells g (unwrap_or o (milliseconds (lead_end part.start (timeline ps).lead))) ∷ []) (sym no_length) (sym (whole pieces many))
      ∙ ap (λ (ps : List Part). cell_counts g align (map (part_over pieces) ps)) (sym only_part)

  pub open_counts : (known : Files) (g : SegmentGrid) (align edits : Bool) (asked : Asked) (count : ℕ) (lead : List TimedRow) (log log_now : Option (List Read)) (n : Needed) → AreLooks known edits asked t.pieces (Ok n) log log_now
      → count ≡ cells g (milliseconds (lead_end part.start lead)) → lead ≡ (part_rows n.rows).lead → count ∷ [] ≡ counts (cutting_of known g align edits) asked t
  open_counts known g align edits asked count lead log log_now n looks count_is lead_is =
      let found = looks.answered in
      let many : length (map source_piece found.all) ≡ length t.pieces = length-map found.all source_piece ∙ sym (length-map found.all (λ c. c.piece)) ∙ ap (λ (ps : List Piece). length ps) (pieces_are known edits asked t.pieces found.all found.checked) in
      ap (λ (n : ℕ). n ∷ []) (count_is ∙ ap (λ rows. cells g (milliseconds (lead_end part.start rows))) (lead_is ∙ ap (λ (rows : TrackRows). rows.lead) found.needed.rows))
      ∙ count_over g align (map source_piece found.all) many
      ∙ ap (cell_counts g align) (sym (parts_are known edits asked t found.all (sources_are known edits asked t.pieces found.all found.checked)))

pub few_by : (ns ms : List ℕ) → ns ≡ ms → sum ns ≤ 100000 → sum ms ≤ 100000
few_by ns ms e few = subst (λ (ks : List ℕ). sum ks ≤ 100000) e few

pub many_by : (ns ms : List ℕ) (e : Refusal) → ns ≡ ms → few_cells (sum ns) ≡ Err e → few_cells (sum ms) ≡ Err e
many_by ns ms e same many = ap (λ (ks : List ℕ). few_cells (sum ks)) (sym same) ∙ many
