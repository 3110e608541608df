-- Segments over the pieces that they need.
use Rattle.std.proofs.Common.{◌≡◌, ◌≢◌, ℕ, zero, suc, ◌+◌, ◌<◌, Bool, true, false, cond, List, [], ◌∷◌, All, get_or, length, map, take, drop, slice_get, Option, Some, None, IfSome, IfOk, IfErr, Result, Ok, Err, ℤ, refl, sym, ap, ap₂, ◌∙◌, subst, arith, true≢false}
use Rattle.std.specs.Prelude.{is_some, sum, nat_lt, ok_or, unwrap_or, if◌then◌else◌}
use Rattle.std.specs.List.{list_all}
use Rattle.std.proofs.lemmas.Bool.{and_parts}
use Rattle.std.proofs.lemmas.Option.{same_Some, slice_get_read}
use Rattle.vod_types.specs.declared.refusal.Refusal.{Refusal}
use Rattle.vod_types.specs.declared.refusal.Refusal.TheVariants as refusals
use Rattle.vod_types.specs.declared.refusal.Refusal.TheVariants.{StoreFailed}
use Rattle.vod_types.specs.declared.tracks.Asked.{Asked}
use Rattle.vod_types.specs.Lists.{from_first, through_first}
use Rattle.vod_types.specs.Results.{◌>>=◌, ◌>>◌, each_in_turn, Answers}
use Rattle.clip_model.specs.declared.Part.{Part}
use Rattle.clip_model.specs.declared.Piece.{Piece}
use Rattle.clip_model.specs.IsTimeline.{IsTimeline}
use Rattle.clip_model.specs.Timeline.{Timeline}
use Rattle.segment_model.specs.Grid.{SegmentGrid, PartGrid, part_grid, cells, cell_counts, cell_time, length_of, locate, milliseconds}
use Rattle.segment_model.specs.Lone.{lone_cell}
use Rattle.segment_model.specs.Needed.{begins, needed_pieces, skipped}
use Rattle.segment_model.specs.Timeline.{SourcePiece, TrackRows, timeline, lead_end}
use Rattle.vod_source.specs.Stored.{Files, Read}
use Rattle.origin_model.specs.Loaded.{CheckedPiece, checked}
use Rattle.origin_model.specs.Plans.{Cutting, Cell, counts, few_cells, cell_of, located_cell, segment_pieces, pieces_or_none}
use Rattle.origin_model.specs.Reads.{turns}
use Rattle.origin_model.specs.Samples.{SegmentPlan}
use Rattle.origin_model.specs.Sources.{is_declared, part_pieces, source_of, source_part, source_piece}
use Rattle.origin_model.proofs.NeededFiles.{ends_after-source, needed_by-declared}
use Rattle.origin_model.proofs.PieceOrder.{no_length, undeclared_part}
use Rattle.vod_source.specs.Calls.{AnswersUnlessFailed, LogsReads, Came}
use Rattle.flat_segments.specs.Needed.{AreLooks, AreOfPart, AreOfPieces, AreNeeded, looked_names, stops}
use Rattle.flat_segments.specs.Planned.{cutting_of, declared_counts, form_of, piece_ends_after, place_among, planned_wanted, segment_turns, wanted_rows}
use Rattle.flat_samples.specs.Rows.{part_rows}
use Rattle.flat_segments.specs.Cells.{part_grid_of}
use Rattle.flat_segments.specs.RowFaults.{EndsLow}
use Rattle.flat_segments.specs.Segments.{facts_of, file_of, flat_plan, AreWritableBy, SizesAreTrue}
use Rattle.flat_segments.specs.declared.cells.PartCells.{PartCells}
use Rattle.flat_segments.specs.declared.needed.Needed.{Needed}
use Rattle.flat_segments.specs.declared.needed.NeededFile.{NeededFile}
use Rattle.flat_segments.specs.declared.rows.FlatRows.{FlatRows}
use Rattle.flat_segments.specs.declared.segment.Wanted.{Wanted}
use Rattle.flat_segments.specs.declared.segment.Wanted.TheVariants.{Whole, Iframe}
use Rattle.answer_laws.proofs.Segments.{iframe_may, rows_may}
use Rattle.answer_laws.proofs.Steps.{May}
use Rattle.vod_source.proofs.CallLemmas.{refusal-not_failed, logs_all, logs_none}
use Rattle.flat_segments.proofs.LoneIframes.{wanted_not_failed, wanted_writable}
use Rattle.flat_segments.proofs.SoundRows.{writable_by}
use Rattle.flat_segments.proofs.Counts.{counts_are, seen_none, sources_are}

-- ---- the rows of a cell

pub cell_not_failed : (r : Result FlatRows Refusal) (number : ℕ) (wanted : Wanted) (asked : Asked) (pieces : List CheckedPiece) (rows : TrackRows) → Answers flat_plan r (wanted_rows number wanted asked pieces rows)
    → IfErr r (λ refusal. refusal ≢ StoreFailed)
cell_not_failed (Ok found) number wanted asked pieces rows due = tt
cell_not_failed (Err e) number wanted asked pieces rows due = refusal-not_failed (wanted_rows number wanted asked pieces rows) e (wanted_not_failed number wanted asked pieces rows) due

-- what is answered for the rows of a cell is what is due for its pieces
pub cell_answers : (number : ℕ) (wanted : Wanted) (asked : Asked) (g : PartGrid) (k : ℕ) (n : Needed) (rows : TrackRows) → rows ≡ lone_cell g (part_rows n.rows) k → (r : Result FlatRows Refusal)
    → ((pieces : List CheckedPiece) → map file_of pieces ≡ map facts_of n.files.items → Answers flat_plan r (wanted_rows number wanted asked pieces rows))
    → (pieces : List CheckedPiece) → AreNeeded pieces n → Answers flat_plan r (wanted_rows number wanted asked pieces (lone_cell g (timeline (map source_piece pieces)) k))
cell_answers number wanted asked g k n rows is r answers pieces needed =
    subst (λ (rows : TrackRows). Answers flat_plan r (wanted_rows number wanted asked pieces rows)) (is ∙ ap (λ (rows : TrackRows). lone_cell g rows k) needed.rows) (answers pieces (sym needed.files))

-- rows of pieces of a part can be written
pub cell_writable : (number : ℕ) (wanted : Wanted) (asked : Asked) (g : PartGrid) (k : ℕ) (n : Needed) (of : AreOfPart asked n) (r : Result FlatRows Refusal)
    → Answers flat_plan r (wanted_rows number wanted asked of.pieces.1.checked (lone_cell g (timeline (map source_piece of.pieces.1.checked)) k))
    → IfOk r (λ rows. All EndsLow rows.video.items) → IfOk r (λ rows. All EndsLow rows.audio.items) → IfOk r (λ rows. rows.files ≡ n.files)
    → IfOk r (λ rows. (content : Option Files) → IfSome content (λ known. SizesAreTrue known n.files.items) → AreWritableBy (form_of wanted) asked content rows)
cell_writable number wanted asked g k n of (Err e) due video audio files = tt
cell_writable number wanted asked g k n of (Ok rows) due video audio files = λ content sizes.
    let first = of.pieces.1 in
    let same : rows.files.items ≡ n.files.items = ap (λ files. files.items) files in
    writable_by asked first.checked rows content (ap (map facts_of) same ∙ first.needed.files) (subst (λ (files : List NeededFile). IfSome content (λ known. SizesAreTrue known files)) (sym same) sizes) (form_of wanted)
    (wanted_writable of.timeline of.part of.skipped of.pieces.0 first.checked of.kept first.of number wanted asked g k (flat_plan rows) first.sound due)
    video audio

-- ---- a length that is declared

either_length : (o : Option ℕ) → is_some o ≡ true → (x y : ℕ) → unwrap_or o x ≡ unwrap_or o y
either_length None h x y = absurd (true≢false (sym h))
either_length (Some n) h x y = refl

-- ---- the pieces of a cell

pub seen_next : (known : Files) (edits : Bool) (asked : Asked) (grid : PartGrid) (cells : PartCells) (k : ℕ) (ps : List Piece) → part_grid_of cells ≡ grid
    → through_first (stops known edits asked (if nat_lt (k + 1) cells.cells then Some (cells, k + 1) else None)) ps
    ≡ cond (nat_lt (suc k) grid.cells) (through_first (λ p. begins grid (suc k) (source_of known edits asked p)) ps) ps
seen_next known edits asked grid cells k ps e =
    let next : k + 1 ≡ suc k = omega arith in
    ap (λ (n : ℕ). through_first (stops known edits asked (if nat_lt n cells.cells then Some (cells, n) else None)) ps) next
    ∙ by_test (nat_lt (suc k) cells.cells)
    ∙ ap (λ (grid : PartGrid). cond (nat_lt (suc k) grid.cells) (through_first (λ p. begins grid (suc k) (source_of known edits asked p)) ps) ps) e
  where
    by_test : (b : Bool) → through_first (stops known edits asked (if b then Some (cells, suc k) else None)) ps
        ≡ cond b (through_first (λ p. begins (part_grid_of cells) (suc k) (source_of known edits asked p)) ps) ps
    by_test true = refl
    by_test false = seen_none known edits asked ps

-- ---- a segment of a timeline

module _ (known : Files) (edits : Bool) (g : SegmentGrid) (align : Bool) (asked : Asked) (t : Timeline) (number : ℕ) (wanted : Wanted) where
  abbrev pub cut : Cutting
  cut = cutting_of known g align edits

  abbrev pub found : Result Cell Refusal
  found = located_cell cut asked t number

  abbrev rows_in : List CheckedPiece → Cell → Result SegmentPlan Refusal
  rows_in pieces cell = wanted_rows number wanted asked pieces (lone_cell cell.grid (timeline (map source_piece pieces)) cell.number)

  abbrev pub planned : Result SegmentPlan Refusal
  planned = planned_wanted cut asked t number wanted

  -- where the number stands
  by_place : found ≡ (place_among (counts cut asked t) number >>= λ p. ok_or (slice_get t.parts p.0) (refusals.NoSegment number (sum (counts cut asked t))) >>= λ part. Ok (cell_of cut asked t part p.1))
  unfolding located_cell
  by_place = by_few (few_cells (sum (counts cut asked t))) (ok_or (locate (counts cut asked t) number) (refusals.NoSegment number (sum (counts cut asked t)))) _
    where
      by_few : (few : Result (Unit {0}) Refusal) (r : Result (ℕ × ℕ) Refusal) (f : ℕ × ℕ → Result Cell Refusal) → (few >> (r >>= f)) ≡ ((few >> r) >>= f)
      by_few (Ok u) r f = refl
      by_few (Err e) r f = refl

  pub found_none : (e : Refusal) → place_among (counts cut asked t) number ≡ Err e → found ≡ Err e
  found_none e is = by_place ∙ ap (λ (r : Result (ℕ × ℕ) Refusal). r >>= λ p. ok_or (slice_get t.parts p.0) (refusals.NoSegment number (sum (counts cut asked t))) >>= λ part. Ok (cell_of cut asked t part p.1)) is

  pub found_cell : (i k : ℕ) (part : Part) → place_among (counts cut asked t) number ≡ Ok (i, k) → slice_get t.parts i ≡ Some part → found ≡ Ok (cell_of cut asked t part k)
  found_cell i k part is at =
      by_place ∙ ap (λ (r : Result (ℕ × ℕ) Refusal). r >>= λ p. ok_or (slice_get t.parts p.0) (refusals.NoSegment number (sum (counts cut asked t))) >>= λ part. Ok (cell_of cut asked t part p.1)) is
      ∙ ap (λ (o : Option Part). ok_or o (refusals.NoSegment number (sum (counts cut asked t))) >>= λ part. Ok (cell_of cut asked t part k)) at

  -- ---- over the pieces that are looked at

  module _ (ps : List Piece) (plan : planned ≡ (each_in_turn (checked known edits asked) ps >>= λ pieces. found >>= rows_in pieces))
      (reads : segment_turns cut asked t number ≡ (turns known [] (looked_names known edits asked ps)).reads) (log log_now : Option (List Read)) where
    module _ {X : Type 0} (r : Result X Refusal) where
      logs_of : LogsReads r (turns known [] (looked_names known edits asked ps)).reads log log_now → LogsReads r (segment_turns cut asked t number) log log_now
      logs_of h = subst (λ (all : List Read). LogsReads r all log log_now) (sym reads) h

    pub came_refused : (e : Refusal) → AreLooks known edits asked ps (Err e) log log_now → Came {X = FlatRows} flat_plan (Err e) planned (segment_turns cut asked t number) log log_now
    came_refused e looks = record {
      answered = λ known_memory known_store. plan
          ∙ ap (λ (r : Result (List CheckedPiece) Refusal). r >>= λ pieces. found >>= rows_in pieces) (looks.answered known_memory known_store);
      logged = logs_of {X = FlatRows} (Err e) looks.logged;
    }

    module _ (n : Needed) (looks : AreLooks known edits asked ps (Ok n) log log_now) where
      planned_is : planned ≡ (found >>= rows_in looks.answered.all)
      planned_is = plan ∙ ap (λ (r : Result (List CheckedPiece) Refusal). r >>= λ pieces. found >>= rows_in pieces) looks.answered.checked

      pub came_unplaced : (e : Refusal) → found ≡ Err e → Came {X = FlatRows} flat_plan (Err e) planned (segment_turns cut asked t number) log log_now
      came_unplaced e none = record {
        answered = λ known_memory known_store. planned_is ∙ ap (λ (r : Result Cell Refusal). r >>= rows_in looks.answered.all) none;
        logged = logs_of {X = FlatRows} (Err e) (logs_all {X = FlatRows} (Err e) (turns known [] (looked_names known edits asked ps)).reads log log_now looks.logged);
      }

      pub came_found : (cell : Cell) (r : Result FlatRows Refusal) → found ≡ Ok cell → Answers flat_plan r (rows_in looks.answered.all cell)
          → Came flat_plan r planned (segment_turns cut asked t number) log log_now
      came_found cell r is answers =
          let due : planned ≡ rows_in looks.answered.all cell = planned_is ∙ ap (λ (r : Result Cell Refusal). r >>= rows_in looks.answered.all) is in
          record { answered = answered r due answers; logged = logs_of r (logs_all r (turns known [] (looked_names known edits asked ps)).reads log log_now looks.logged) }
        where
          answered : (r : Result FlatRows Refusal) → planned ≡ rows_in looks.answered.all cell → Answers flat_plan r (rows_in looks.answered.all cell) → AnswersUnlessFailed flat_plan r planned
          answered (Ok rows) due h = due ∙ h
          answered (Err e) due h = λ known_memory known_store. due ∙ h known_memory

  -- ---- where all lengths are declared

  plan_declared : is_declared t ≡ true → planned ≡ ((found >>= λ cell. Ok cell.pieces) >>= λ needed. each_in_turn (checked known edits asked) needed >>= λ pieces. found >>= rows_in pieces)
  unfolding planned_wanted segment_pieces
  plan_declared declared = rw declared refl

  segment_pieces_is : is_declared t ≡ true → segment_pieces cut asked t number ≡ (found >>= λ cell. Ok cell.pieces)
  unfolding segment_pieces
  segment_pieces_is declared = rw declared refl

  turns_declared : is_declared t ≡ true → segment_turns cut asked t number ≡ (turns known [] (looked_names known edits asked (pieces_or_none (found >>= λ cell. Ok cell.pieces)))).reads
  turns_declared declared = ap (λ (r : Result (List Piece) Refusal). (turns known [] (looked_names known edits asked (pieces_or_none r))).reads) (segment_pieces_is declared)

  pub plan_cell : (cell : Cell) → is_declared t ≡ true → found ≡ Ok cell → planned ≡ (each_in_turn (checked known edits asked) cell.pieces >>= λ pieces. found >>= rows_in pieces)
  plan_cell cell declared is =
      plan_declared declared ∙ ap (λ (r : Result Cell Refusal). (r >>= λ cell. Ok cell.pieces) >>= λ needed. each_in_turn (checked known edits asked) needed >>= λ pieces. found >>= rows_in pieces) is

  pub turns_cell : (cell : Cell) → is_declared t ≡ true → found ≡ Ok cell → segment_turns cut asked t number ≡ (turns known [] (looked_names known edits asked cell.pieces)).reads
  turns_cell cell declared is =
      turns_declared declared ∙ ap (λ (r : Result Cell Refusal). (turns known [] (looked_names known edits asked (pieces_or_none (r >>= λ cell. Ok cell.pieces)))).reads) is

  -- a number out of the cells is refused before any movie is read
  nothing_turned : (turns known [] (looked_names known edits asked [])).reads ≡ []
  unfolding turns
  nothing_turned = refl

  pub came_unread : (e : Refusal) (log : Option (List Read)) → is_declared t ≡ true → found ≡ Err e → Came {X = FlatRows} flat_plan (Err e) planned (segment_turns cut asked t number) log log
  came_unread e log declared none = record {
    answered = λ known_memory known_store. plan_declared declared
        ∙ ap (λ (r : Result Cell Refusal). (r >>= λ cell. Ok cell.pieces) >>= λ needed. each_in_turn (checked known edits asked) needed >>= λ pieces. r >>= rows_in pieces) none;
    logged = subst (λ (reads : List Read). LogsReads {X = FlatRows} (Err e) reads log log)
        (sym (turns_declared declared ∙ ap (λ (r : Result Cell Refusal). (turns known [] (looked_names known edits asked (pieces_or_none (r >>= λ cell. Ok cell.pieces)))).reads) none ∙ nothing_turned))
        (logs_none {X = FlatRows} (Err e) log log refl);
  }

  pub cell_number : (part : Part) (k : ℕ) → (cell_of cut asked t part k).number ≡ k
  unfolding cell_of
  cell_number part k = refl

  -- how the part of a cell is cut
  pub cell_grid : (part : Part) (k : ℕ) → is_some part.length_ms ≡ true
      → (cell_of cut asked t part k).grid ≡ record { grid = g; align = align; start = part.start; cells = cells g (unwrap_or part.length_ms 0) }
  unfolding cell_of source_part length_of
  cell_grid part k declared = ap (λ (n : ℕ). record { grid = g; align = align; start = part.start; cells = cells g n }) (either_length part.length_ms declared _ 0)

  -- the pieces of a cell
  pub cell_pieces : (part : Part) (k : ℕ) → is_some part.length_ms ≡ true → let grid = (cell_of cut asked t part k).grid in
      (cell_of cut asked t part k).pieces
      ≡ cond (nat_lt (suc k) grid.cells) (through_first (λ p. begins grid (suc k) (source_of known edits asked p)) (from_first (piece_ends_after (cell_time grid k)) (part_pieces t part)))
      (from_first (piece_ends_after (cell_time grid k)) (part_pieces t part))
  unfolding cell_of source_part
  cell_pieces part k declared =
      let grid = part_grid g align (source_part known edits asked t part) in
      by_length part.length_ms declared
    where
      by_length : (o : Option ℕ) → is_some o ≡ true → let grid = part_grid g align (source_part known edits asked t part) in
          take (length (needed_pieces grid o k (map (source_of known edits asked) (part_pieces t part)))) (drop (skipped grid o k (map (source_of known edits asked) (part_pieces t part))) (part_pieces t part))
          ≡ cond (nat_lt (suc k) grid.cells) (through_first (λ p. begins grid (suc k) (source_of known edits asked p)) (from_first (piece_ends_after (cell_time grid k)) (part_pieces t part)))
          (from_first (piece_ends_after (cell_time grid k)) (part_pieces t part))
      by_length None h = absurd (true≢false (sym h))
      by_length (Some n) h =
          let grid = part_grid g align (source_part known edits asked t part) in
          needed_by-declared (source_of known edits asked) grid k (ends_after-source known edits asked (cell_time grid k)) n (part_pieces t part)

  -- ---- where the only length isn't declared

  pub plan_open : is_declared t ≡ false → planned ≡ (each_in_turn (checked known edits asked) t.pieces >>= λ pieces. found >>= rows_in pieces)
  unfolding planned_wanted segment_pieces
  plan_open e = rw e refl

  segment_pieces_open : is_declared t ≡ false → segment_pieces cut asked t number ≡ Ok t.pieces
  unfolding segment_pieces
  segment_pieces_open e = rw e refl

  pub turns_open : is_declared t ≡ false → segment_turns cut asked t number ≡ (turns known [] (looked_names known edits asked t.pieces)).reads
  turns_open e = ap (λ (r : Result (List Piece) Refusal). (turns known [] (looked_names known edits asked (pieces_or_none r))).reads) (segment_pieces_open e)

-- ---- where a number stands

part_declared : (parts : List Part) (i : ℕ) (part : Part) → list_all (λ q. is_some q.length_ms) parts ≡ true → slice_get parts i ≡ Some part → is_some part.length_ms ≡ true
part_declared [] i part h e = absurd cc
part_declared (q ∷ parts) zero part h e = subst (λ (p : Part). is_some p.length_ms ≡ true) (same_Some q part e) (and_parts (is_some q.length_ms) (list_all (λ q. is_some q.length_ms) parts) h).0
part_declared (q ∷ parts) (suc i) part h e = part_declared parts i part (and_parts (is_some q.length_ms) (list_all (λ q. is_some q.length_ms) parts) h).1 e

pub count_at : (g : SegmentGrid) (parts : List Part) (i : ℕ) (part : Part) (count : ℕ) → slice_get parts i ≡ Some part → slice_get (declared_counts g parts) i ≡ Some count → count ≡ cells g (unwrap_or part.length_ms 0)
count_at g [] i part count e f = absurd cc
count_at g (q ∷ parts) zero part count e f = sym (same_Some (cells g (unwrap_or q.length_ms 0)) count f) ∙ ap (λ (p : Part). cells g (unwrap_or p.length_ms 0)) (same_Some q part e)
count_at g (q ∷ parts) (suc i) part count e f = count_at g parts i part count e f

-- The number of a segment stands at the cell k of a part, which is cut so, and these are the part's pieces that end after the cell's boundary.
pub record StandsAt (g : SegmentGrid) (align : Bool) (t : Timeline) (number : ℕ) (cut_into : PartCells) (k : ℕ) (shown : List Piece) (next : Option (PartCells × ℕ)) : Type 0 where
  pub declared : is_declared t ≡ true
  pub place : ℕ
  pub part : Part
  pub among : place_among (declared_counts g t.parts) number ≡ Ok (place, k)
  pub at : slice_get t.parts place ≡ Some part
  pub grid : part_grid_of cut_into ≡ record { grid = g; align = align; start = part.start; cells = cells g (unwrap_or part.length_ms 0) }
  pub shown_is : shown ≡ from_first (piece_ends_after (cell_time (part_grid_of cut_into) k)) (part_pieces t part)
  pub next_is : next ≡ (if nat_lt (k + 1) cut_into.cells then Some (cut_into, k + 1) else None)

module _ (known : Files) (edits : Bool) (g : SegmentGrid) (align : Bool) (asked : Asked) (t : Timeline) (number : ℕ) (wanted : Wanted) (cut_into : PartCells) (k : ℕ) (shown : List Piece) (next : Option (PartCells × ℕ))
    (s : StandsAt g align t number cut_into k shown next) (log log_now : Option (List Read)) where
  abbrev cell : Cell
  cell = cell_of (cutting_of known g align edits) asked t s.part k

  declared_part : is_some s.part.length_ms ≡ true
  declared_part = part_declared t.parts s.place s.part s.declared s.at

  cell_found : located_cell (cutting_of known g align edits) asked t number ≡ Ok cell
  cell_found = found_cell known edits g align asked t number wanted s.place k s.part (ap (λ (ns : List ℕ). place_among ns number) (counts_are known edits g align asked t s.declared) ∙ s.among) s.at

  grid_is : part_grid_of cut_into ≡ cell.grid
  grid_is = s.grid ∙ sym (cell_grid known edits g align asked t number wanted s.part k declared_part)

  pieces_are : through_first (stops known edits asked next) shown ≡ cell.pieces
  pieces_are =
      ap (λ (n : Option (PartCells × ℕ)). through_first (stops known edits asked n) shown) s.next_is
      ∙ seen_next known edits asked cell.grid cut_into k shown grid_is
      ∙ ap (λ (ps : List Piece). cond (nat_lt (suc k) cell.grid.cells) (through_first (λ p. begins cell.grid (suc k) (source_of known edits asked p)) ps) ps)
      (s.shown_is ∙ ap (λ (grid : PartGrid). from_first (piece_ends_after (cell_time grid k)) (part_pieces t s.part)) grid_is)
      ∙ sym (cell_pieces known edits g align asked t number wanted s.part k declared_part)

  looks_at : (r : Result Needed Refusal) → AreLooks known edits asked (through_first (stops known edits asked next) shown) r log log_now → AreLooks known edits asked cell.pieces r log log_now
  looks_at r looks = subst (λ (ps : List Piece). AreLooks known edits asked ps r log log_now) pieces_are looks

  pub stands_refused : (e : Refusal) → AreLooks known edits asked (through_first (stops known edits asked next) shown) (Err e) log log_now
      → Came {X = FlatRows} flat_plan (Err e) (planned known edits g align asked t number wanted) (segment_turns (cutting_of known g align edits) asked t number) log log_now
  stands_refused e looks =
      came_refused known edits g align asked t number wanted cell.pieces (plan_cell known edits g align asked t number wanted cell s.declared cell_found) (turns_cell known edits g align asked t number wanted cell s.declared cell_found) log log_now e (looks_at (Err e) looks)

  pub stands_found : (n : Needed) (r : Result FlatRows Refusal) → AreLooks known edits asked (through_first (stops known edits asked next) shown) (Ok n) log log_now
      → ((pieces : List CheckedPiece) → AreNeeded pieces n → Answers flat_plan r (wanted_rows number wanted asked pieces (lone_cell (part_grid_of cut_into) (timeline (map source_piece pieces)) k)))
      → Came flat_plan r (planned known edits g align asked t number wanted) (segment_turns (cutting_of known g align edits) asked t number) log log_now
  stands_found n r looks answers =
      let here = looks_at (Ok n) looks in
      came_found known edits g align asked t number wanted cell.pieces (plan_cell known edits g align asked t number wanted cell s.declared cell_found) (turns_cell known edits g align asked t number wanted cell s.declared cell_found) log log_now n here cell r cell_found
      (subst (λ (i : ℕ). Answers flat_plan r (wanted_rows number wanted asked here.answered.all (lone_cell cell.grid (timeline (map source_piece here.answered.all)) i))) (sym (cell_number known edits g align asked t number wanted s.part k))
      (subst (λ (grid : PartGrid). Answers flat_plan r (wanted_rows number wanted asked here.answered.all (lone_cell grid (timeline (map source_piece here.answered.all)) k))) grid_is
      (answers here.answered.all here.answered.needed)))

pub stands_at : (g : SegmentGrid) (align : Bool) (t : Timeline) (number : ℕ) (ns items : List ℕ) (ps : List Part) (place : ℕ × ℕ) (part : Part) (pieces shown : List Piece) (count : ℕ)
    (cut_into : PartCells) (time : ℤ) (next : Option (PartCells × ℕ)) → is_declared t ≡ true → ns ≡ items → items ≡ declared_counts g ps → ps ≡ t.parts → Ok place ≡ place_among ns number
    → slice_get t.parts place.0 ≡ Some part → place.0 < length items → count ≡ get_or items place.0 count
    → part_grid_of cut_into ≡ record { grid = g; align = align; start = part.start; cells = count } → pieces ≡ part_pieces t part → shown ≡ from_first (piece_ends_after time) pieces
    → time ≡ cell_time (part_grid_of cut_into) place.1 → next ≡ (if nat_lt (place.1 + 1) cut_into.cells then Some (cut_into, place.1 + 1) else None)
    → StandsAt g align t number cut_into place.1 shown next
stands_at g align t number ns items ps place part pieces shown count cut_into time next declared same are of among at within counted grid pieces_are shown_is times next_is =
    let all : items ≡ declared_counts g t.parts = are ∙ ap (declared_counts g) of in
    let read : slice_get items place.0 ≡ Some count = slice_get_read items (length items) place.0 count refl within counted in
    let many : count ≡ cells g (unwrap_or part.length_ms 0) = count_at g t.parts place.0 part count at (ap (λ (xs : List ℕ). slice_get xs place.0) (sym all) ∙ read) in
    record {
      declared = declared;
      place = place.0;
      part = part;
      among = sym (among ∙ ap (λ (xs : List ℕ). place_among xs number) (same ∙ all));
      at = at;
      grid = grid ∙ ap (λ (n : ℕ). record { grid = g; align = align; start = part.start; cells = n }) many;
      shown_is = shown_is ∙ ap₂ (λ (time : ℤ) (ps : List Piece). from_first (piece_ends_after time) ps) times pieces_are;
      next_is = next_is;
    }

pub none_among : (known : Files) (edits : Bool) (g : SegmentGrid) (align : Bool) (asked : Asked) (t : Timeline) (number : ℕ) (wanted : Wanted) (ns items : List ℕ) (ps : List Part) (e : Refusal) → is_declared t ≡ true → ns ≡ items → items ≡ declared_counts g ps → ps ≡ t.parts
    → Err e ≡ place_among ns number → located_cell (cutting_of known g align edits) asked t number ≡ Err e
none_among known edits g align asked t number wanted ns items ps e declared same are of among =
    found_none known edits g align asked t number wanted e
    (ap (λ (xs : List ℕ). place_among xs number) (counts_are known edits g align asked t declared ∙ sym (same ∙ are ∙ ap (declared_counts g) of)) ∙ sym among)

-- the needed pieces are some of a part's
pub needed_of_part : (asked : Asked) (t : Timeline) (part : Part) (shown : List Piece) (skipped : ℕ) (n : Needed) → IsTimeline t.pieces t.parts → shown ≡ drop skipped (part_pieces t part) → AreOfPieces asked shown n
    → AreOfPart asked n
needed_of_part asked t part shown skipped n h e of = record { timeline = t; part = part; skipped = skipped; kept = h; pieces = subst (λ (ps : List Piece). AreOfPieces asked ps n) e of }

-- ---- a timeline of one part without a declared length

pub some_part : (t : Timeline) → is_declared t ≡ false → 0 < length t.parts
some_part t e = by_parts t.parts e
  where
    by_parts : (parts : List Part) → list_all (λ part. is_some part.length_ms) parts ≡ false → 0 < length parts
    by_parts [] e = absurd (true≢false e)
    by_parts (p ∷ ps) e = omega arith

module _ (known : Files) (edits : Bool) (g : SegmentGrid) (align : Bool) (asked : Asked) (t : Timeline) (number : ℕ) (wanted : Wanted) (part : Part) (h : IsTimeline t.pieces t.parts) (open_end : is_declared t ≡ false) (at : slice_get t.parts 0 ≡ Some part) where
  whole_part : (part.length_ms ≡ None) × (part_pieces t part ≡ t.pieces)
  whole_part = undeclared_part t 0 part h open_end at

  -- all its pieces are looked at
  pub looks_at_all : (shown : List Piece) (r : Result Needed Refusal) (log log_now : Option (List Read)) → shown ≡ part_pieces t part → AreLooks known edits asked (through_first (stops known edits asked None) shown) r log log_now
      → AreLooks known edits asked t.pieces r log log_now
  looks_at_all shown r log log_now e looks = subst (λ (ps : List Piece). AreLooks known edits asked ps r log log_now) (seen_none known edits asked shown ∙ e ∙ whole_part.1) looks

  pub open_refused : (shown : List Piece) (e : Refusal) (log log_now : Option (List Read)) → shown ≡ part_pieces t part → AreLooks known edits asked (through_first (stops known edits asked None) shown) (Err e) log log_now
      → Came {X = FlatRows} flat_plan (Err e) (planned known edits g align asked t number wanted) (segment_turns (cutting_of known g align edits) asked t number) log log_now
  open_refused shown e log log_now is looks =
      came_refused known edits g align asked t number wanted t.pieces (plan_open known edits g align asked t number wanted open_end) (turns_open known edits g align asked t number wanted open_end) log log_now e (looks_at_all shown (Err e) log log_now is looks)

  module _ (shown : List Piece) (n : Needed) (count : ℕ) (log log_now : Option (List Read)) (is : shown ≡ part_pieces t part) (looks : AreLooks known edits asked (through_first (stops known edits asked None) shown) (Ok n) log log_now)
      (counted : count ≡ cells g (milliseconds (lead_end part.start (part_rows n.rows).lead))) where
    abbrev here : AreLooks known edits asked t.pieces (Ok n) log log_now
    here = looks_at_all shown (Ok n) log log_now is looks

    length_is : length_of (source_part known edits asked t part) ≡ milliseconds (lead_end part.start (part_rows n.rows).lead)
    unfolding source_part length_of
    length_is =
        ap (λ (o : Option ℕ). unwrap_or o (milliseconds (lead_end part.start (timeline (map (source_of known edits asked) (part_pieces t part))).lead))) whole_part.0
        ∙ ap (λ (ps : List Piece). milliseconds (lead_end part.start (timeline (map (source_of known edits asked) ps)).lead)) whole_part.1
        ∙ ap (λ (ss : List SourcePiece). milliseconds (lead_end part.start (timeline ss).lead)) (sources_are known edits asked t.pieces here.answered.all here.answered.checked)
        ∙ ap (λ (rows : TrackRows). milliseconds (lead_end part.start rows.lead)) (sym here.answered.needed.rows)

    counts_is : counts (cutting_of known g align edits) asked t ≡ count ∷ []
    counts_is =
        ap (λ (parts : List Part). cell_counts g align (map (source_part known edits asked t) parts)) (only t.parts at (no_length t.parts t.parts h.open_lengths open_end))
        ∙ ap (λ (n : ℕ). cells g n ∷ []) length_is ∙ ap (λ (n : ℕ). n ∷ []) (sym counted)
      where
        only : (parts : List Part) → slice_get parts 0 ≡ Some part → length parts ≡ 1 → parts ≡ part ∷ []
        only [] at one = absurd (omega (arith, one))
        only (p ∷ []) at one = ap (λ (p : Part). p ∷ []) (same_Some p part at)
        only (p ∷ q ∷ ps) at one = absurd (omega (arith, one))

    grid_of_open : (k : ℕ) → record { grid = g; align = align; start = part.start; cells = count } ≡ (cell_of (cutting_of known g align edits) asked t part k).grid
    unfolding cell_of source_part
    grid_of_open k = ap (λ (n : ℕ). record { grid = g; align = align; start = part.start; cells = n }) (counted ∙ ap (cells g) (sym length_is))

    pub open_unplaced : (e : Refusal) → Err e ≡ place_among (count ∷ []) number
        → Came {X = FlatRows} flat_plan (Err e) (planned known edits g align asked t number wanted) (segment_turns (cutting_of known g align edits) asked t number) log log_now
    open_unplaced e none =
        came_unplaced known edits g align asked t number wanted t.pieces (plan_open known edits g align asked t number wanted open_end) (turns_open known edits g align asked t number wanted open_end) log log_now n here e
        (found_none known edits g align asked t number wanted e (ap (λ (ns : List ℕ). place_among ns number) counts_is ∙ sym none))

    pub open_found : (cut_into : PartCells) (place : ℕ × ℕ) (r : Result FlatRows Refusal) → part_grid_of cut_into ≡ record { grid = g; align = align; start = part.start; cells = count }
        → place.0 < 1 → Ok place ≡ place_among (count ∷ []) number
        → ((pieces : List CheckedPiece) → AreNeeded pieces n → Answers flat_plan r (wanted_rows number wanted asked pieces (lone_cell (part_grid_of cut_into) (timeline (map source_piece pieces)) place.1)))
        → Came flat_plan r (planned known edits g align asked t number wanted) (segment_turns (cutting_of known g align edits) asked t number) log log_now
    open_found cut_into place r grid within found answers =
        let k = place.1 in
        let cell : Cell = cell_of (cutting_of known g align edits) asked t part k in
        let first : place.0 ≡ 0 = omega (arith, within) in
        let all = here.answered.all in
        came_found known edits g align asked t number wanted t.pieces (plan_open known edits g align asked t number wanted open_end) (turns_open known edits g align asked t number wanted open_end) log log_now n here cell r
        (found_cell known edits g align asked t number wanted 0 k part
        (ap (λ (ns : List ℕ). place_among ns number) counts_is ∙ sym found ∙ ap (λ (i : ℕ). Ok (i, k)) first) at)
        (subst (λ (i : ℕ). Answers flat_plan r (wanted_rows number wanted asked all (lone_cell cell.grid (timeline (map source_piece all)) i))) (sym (cell_number known edits g align asked t number wanted part k))
        (subst (λ (grid : PartGrid). Answers flat_plan r (wanted_rows number wanted asked all (lone_cell grid (timeline (map source_piece all)) k))) (grid ∙ grid_of_open k)
        (answers all here.answered.needed)))

-- ---- why a segment is refused

pub wanted_may : (number : ℕ) (wanted : Wanted) (asked : Asked) (pieces : List CheckedPiece) (rows : TrackRows) → May (wanted_rows number wanted asked pieces rows)
wanted_may number (Whole form) asked pieces rows = rows_may number form asked pieces rows
wanted_may number (Iframe index) asked pieces rows = iframe_may number index asked pieces rows
