-- Segments over the pieces that they need.
use Rattle.std.proofs.Common.{◌≡◌, ℕ, zero, suc, ◌+◌, ◌*◌, ◌≤◌, ◌<◌, Bool, true, false, cond, List, [], ◌∷◌, All, get_or, length, map, take, drop, slice_get, Option, Some, None, Result, Ok, Err, ℤ, refl, sym, ap, ap₂, ◌∙◌, subst, arith, true≢false}
use Rattle.std.specs.Prelude.{is_some, is_err, sum, nat_lt, ok_or, unwrap_or, if◌then◌else◌}
use Rattle.std.specs.List.{list_all, position_or_len}
use Rattle.std.specs.Result.{result_unwrap_or}
use Rattle.std.proofs.lemmas.Bool.{and_parts}
use Rattle.std.proofs.lemmas.List.{take_all}
use Rattle.std.proofs.lemmas.Option.{same_Some, slice_get_read}
use Rattle.vod_types.specs.declared.refusal.Refusal.{Refusal}
use Rattle.vod_types.specs.declared.refusal.Refusal.TheVariants as refusals
use Rattle.vod_types.specs.declared.refusal.Refusal.TheVariants.{NoMemory, StoreFailed}
use Rattle.vod_types.specs.declared.segments.Form.{Form}
use Rattle.vod_types.specs.declared.tracks.Asked.{Asked}
use Rattle.vod_types.specs.Lists.{from_first, through_first}
use Rattle.vod_types.specs.Results.{◌>>=◌, ◌>>◌, each_in_turn, Answers}
use Rattle.vod_types.proofs.StepLemmas.{bind_ok}
use Rattle.clip_model.specs.declared.Part.{Part}
use Rattle.clip_model.specs.declared.Piece.{Piece}
use Rattle.clip_model.specs.IsTimeline.{IsTimeline}
use Rattle.clip_model.specs.Timeline.{Timeline}
use Rattle.segment_model.specs.Grid.{SegmentGrid, PartGrid, part_grid, cells, cell_counts, cell_time, length_of, locate, milliseconds}
use Rattle.segment_model.specs.Lone.{lone_cell}
use Rattle.segment_model.specs.Needed.{begins, needed_pieces, skipped}
use Rattle.segment_model.specs.Timeline.{SourcePiece, TrackRows, timeline, lead_end}
use Rattle.vod_source.specs.Calls.{AnswersUnlessFailed, Came}
use Rattle.vod_source.specs.Stored.{Files, Read}
use Rattle.vod_source.proofs.CallLemmas.{answers_unless}
use Rattle.origin_model.specs.Iframes.{planned_iframe}
use Rattle.origin_model.specs.Loaded.{CheckedPiece, checked, unread_piece}
use Rattle.origin_model.specs.Plans.{Cutting, Cell, counts, few_cells, cell_of, located_cell, planned_segment, segment_looks, segment_pieces, pieces_or_none}
use Rattle.origin_model.specs.Reads.{Cache, turns}
use Rattle.origin_model.specs.Samples.{SegmentPlan}
use Rattle.origin_model.specs.Sources.{is_declared, part_pieces, source_of, source_part, source_piece}
use Rattle.origin_model.proofs.NeededFiles.{ends_after-source, needed_by-declared}
use Rattle.origin_model.specs.Writable.{IsSoundPiece}
use Rattle.origin_model.proofs.PieceOrder.{no_length, undeclared_part}
use Rattle.origin_model.proofs.SoundPieces.{all_sound}
use Rattle.seq_cells.specs.Cells.{declared_counts, part_grid_of, piece_ends_after, place_among, stops}
use Rattle.seq_cells.specs.declared.cells.PartCells.{PartCells}
use Rattle.vod_meta.specs.Held.{HeldMovie, names_held}
use Rattle.vod_plan.specs.declared.needed.NeededPieces.{NeededPieces}
use Rattle.vod_plan.specs.Looks.{cell_rows, names_of, samples_in, samples_through, segment_bound, tracks_asked}
use Rattle.vod_plan.specs.Needed.{looked_count, looked_names, looked_pieces, AreFoundOf, AreLooks}
use Rattle.vod_plan.specs.Planned.{Planned, cutting_of, plan_view}
use Rattle.vod_plan.specs.Segments.{IsPlannedBy}
use Rattle.vod_plan.specs.Turned.{AreTurns}
use Rattle.vod_plan.specs.Wanted.{planned_wanted, wanted_rows}
use Rattle.vod_plan.specs.declared.lone.Wanted.{Wanted}
use Rattle.vod_plan.specs.declared.lone.Wanted.TheVariants.{Iframe, Whole}
use Rattle.vod_plan.proofs.CacheLemmas.{turned_all, turned_begin, turned_unbegun}
use Rattle.vod_plan.specs.Selected.{rows_planned}
use Rattle.vod_plan.specs.Spans.{piece_view}
use Rattle.vod_types.specs.Tracks.{lead_of, video_alone}
use Rattle.vod_plan.proofs.FoundLemmas.{found_count, found_rows}

-- ---- numbers of looks

bound_refused : (s s₁ x y : ℕ) → s₁ ≤ s + 1280 * x → s₁ ≤ s + (4096 * x + 8 * y)
bound_refused s s₁ x y h = omega (arith, h)

bound_found : (s s₁ s₂ s₃ x y : ℕ) → s₁ ≤ s + 1280 * x → s₂ ≤ s₁ + 256 * x → s₃ ≤ s₂ + 2560 * x + 8 * y → s₃ ≤ s + (4096 * x + 8 * y)
bound_found s s₁ s₂ s₃ x y h i j = omega (arith, h, i, j)

bound_unplaced : (s s₁ s₂ x y : ℕ) → s₁ ≤ s + 1280 * x → s₂ ≤ s₁ + 256 * x → s₂ ≤ s + (4096 * x + 8 * y)
bound_unplaced s s₁ s₂ x y h i = omega (arith, h, i)

pub no_more : (s x : ℕ) → s ≤ s + x
no_more s x = omega arith

-- all pieces are looked at where none is refused
pub all_looked : (f : Piece → Result CheckedPiece Refusal) (ps : List Piece) (cs : List CheckedPiece) → each_in_turn f ps ≡ Ok cs → length (through_first (λ p. is_err (f p)) ps) ≡ length cs
all_looked f [] cs e = let none : [] ≡ cs = cc in ap (λ (cs : List CheckedPiece). length cs) none
all_looked f (p ∷ ps) cs e =
    let first = bind_ok (f p) (λ c. each_in_turn f ps >>= λ cs. Ok (c ∷ cs)) cs e in
    let rest = bind_ok (each_in_turn f ps) (λ cs. Ok (first.0 ∷ cs)) cs first.2 in
    let same : (first.0 ∷ rest.0) ≡ cs = (let e = rest.2 in cc) in
    let good : is_err (f p) ≡ false = ap (λ (r : Result CheckedPiece Refusal). is_err r) first.1 in
    through p ps good ∙ ap suc (all_looked f ps rest.0 rest.1) ∙ ap (λ (cs : List CheckedPiece). length cs) same
  where
    through : (p : Piece) (ps : List Piece) → is_err (f p) ≡ false → length (through_first (λ p. is_err (f p)) (p ∷ ps)) ≡ suc (length (through_first (λ p. is_err (f p)) ps))
    through p ps good =
        let n : 1 + position_or_len (λ (p : Piece). is_err (f p)) ps + 1 ≡ suc (position_or_len (λ (p : Piece). is_err (f p)) ps + 1) = omega arith in
        rw good (ap (λ (n : ℕ). length (take n (p ∷ ps))) n)

-- ---- the pieces of a cell

never : {X : Type 0} (xs : List X) → position_or_len (λ (x : X). false) xs ≡ length xs
never [] = refl
never (x ∷ xs) = ap (λ (n : ℕ). 1 + n) (never xs) ∙ (let more : 1 + length xs ≡ suc (length xs) = omega arith in more)

through_none : {X : Type 0} (xs : List X) → through_first (λ (x : X). false) xs ≡ xs
through_none xs = take_all (position_or_len (λ x. false) xs + 1) xs (let many = never xs in omega (arith, many))

pub seen_none : (known : Files) (edits : Bool) (asked : Asked) (ps : List Piece) → through_first (stops known edits asked None) ps ≡ ps
seen_none known edits asked ps = through_none ps

seen_next : (known : Files) (edits : Bool) (asked : Asked) (grid : PartGrid) (cells : PartCells) (k : ℕ) (ps : List Piece) → part_grid_of cells ≡ grid
    → through_first (stops known edits asked (if nat_lt (k + 1) cells.cells then Some (cells, k + 1) else None)) ps
    ≡ cond (nat_lt (suc k) grid.cells) (through_first (λ p. begins grid (suc k) (source_of known edits asked p)) ps) ps
seen_next known edits asked grid cells k ps e =
    let next : k + 1 ≡ suc k = omega arith in
    ap (λ (n : ℕ). through_first (stops known edits asked (if nat_lt n cells.cells then Some (cells, n) else None)) ps) next
    ∙ by_test (nat_lt (suc k) cells.cells)
    ∙ ap (λ (grid : PartGrid). cond (nat_lt (suc k) grid.cells) (through_first (λ p. begins grid (suc k) (source_of known edits asked p)) ps) ps) e
  where
    by_test : (b : Bool) → through_first (stops known edits asked (if b then Some (cells, suc k) else None)) ps
        ≡ cond b (through_first (λ p. begins (part_grid_of cells) (suc k) (source_of known edits asked p)) ps) ps
    by_test true = refl
    by_test false = seen_none known edits asked ps

either_length : (o : Option ℕ) → is_some o ≡ true → (x y : ℕ) → unwrap_or o x ≡ unwrap_or o y
either_length None h x y = absurd (true≢false (sym h))
either_length (Some n) h x y = refl

-- checked pieces are the sources of their pieces
pub sources_are : (known : Files) (edits : Bool) (asked : Asked) (ps : List Piece) (cs : List CheckedPiece) → each_in_turn (checked known edits asked) ps ≡ Ok cs → map (source_of known edits asked) ps ≡ map source_piece cs
sources_are known edits asked [] cs e = let none : [] ≡ cs = cc in ap (map source_piece) none
sources_are known edits asked (p ∷ ps) cs e =
    let first = bind_ok (checked known edits asked p) (λ c. each_in_turn (checked known edits asked) ps >>= λ cs. Ok (c ∷ cs)) cs e in
    let rest = bind_ok (each_in_turn (checked known edits asked) ps) (λ cs. Ok (first.0 ∷ cs)) cs first.2 in
    let same : (first.0 ∷ rest.0) ≡ cs = (let e = rest.2 in cc) in
    ap₂ (λ (s : SourcePiece) (ss : List SourcePiece). s ∷ ss) (ap (λ (r : Result CheckedPiece Refusal). source_piece (result_unwrap_or r (unread_piece p))) first.1) (sources_are known edits asked ps rest.0 rest.1)
    ∙ ap (map source_piece) same

-- ---- a segment of a timeline

module _ (known : Files) (edits : Bool) (g : SegmentGrid) (align : Bool) (asked : Asked) (t : Timeline) (number : ℕ) (wanted : Wanted) where
  abbrev pub cut : Cutting
  cut = cutting_of known g align edits

  abbrev pub found : Result Cell Refusal
  found = located_cell cut asked t number

  abbrev cell_of_rows : List CheckedPiece → Cell → TrackRows
  cell_of_rows pieces cell = lone_cell cell.grid (timeline (map source_piece pieces)) cell.number

  abbrev rows_in : List CheckedPiece → Cell → Result SegmentPlan Refusal
  rows_in pieces cell = wanted_rows number wanted asked pieces (cell_of_rows pieces cell)

  abbrev pub IsDone : Result Planned Refusal → List HeldMovie → List HeldMovie → Option (List Read) → Option (List Read) → ℕ → ℕ → Type 0
  IsDone r held held_now log log_now s s₁ = IsPlannedBy cut asked t number wanted r (names_held held) (names_held held_now) log log_now s s₁

  plan_by : (ps : List Piece) → segment_pieces cut asked t number ≡ Ok ps → planned_wanted cut asked t number wanted ≡ (each_in_turn (checked known edits asked) ps >>= λ pieces. found >>= rows_in pieces)
  unfolding planned_wanted
  plan_by ps e = rw e refl

  plan_none : (e : Refusal) → segment_pieces cut asked t number ≡ Err e → planned_wanted cut asked t number wanted ≡ Err e
  unfolding planned_wanted
  plan_none e is = rw is refl

  rows_by : (ps : List Piece) → segment_pieces cut asked t number ≡ Ok ps → cell_rows cut asked t number ≡ (each_in_turn (checked known edits asked) ps >>= λ pieces. found >>= λ cell. Ok (cell_of_rows pieces cell))
  unfolding cell_rows
  rows_by ps e = rw e refl

  looks_by : (ps : List Piece) → segment_pieces cut asked t number ≡ Ok ps → segment_looks cut asked t number ≡ looked_pieces known edits asked ps
  looks_by ps e = ap (λ (r : Result (List Piece) Refusal). looked_pieces known edits asked (pieces_or_none r)) e

  looks_none : (e : Refusal) → segment_pieces cut asked t number ≡ Err e → segment_looks cut asked t number ≡ []
  looks_none e is = ap (λ (r : Result (List Piece) Refusal). looked_pieces known edits asked (pieces_or_none r)) is

  -- memory ran out before the first look
  pub done_unbegun : (e : Refusal) (held : List HeldMovie) (log : Option (List Read)) (s : ℕ) → e ≡ NoMemory → IsDone (Err e) held held log log s s
  done_unbegun e held log s is = record {
    answered = λ memory store. absurd (memory is);
    turned = turned_unbegun known Planned e (names_of (segment_looks cut asked t number)) (names_held held) log is;
    looks = no_more s (segment_bound cut asked t number);
  }

  -- nothing is looked at
  pub done_unread : (e : Refusal) (held : List HeldMovie) (log : Option (List Read)) (s : ℕ) → segment_pieces cut asked t number ≡ Err e → IsDone (Err e) held held log log s s
  done_unread e held log s is =
      let due : Result Planned Refusal = Err e in
      record {
        answered = λ memory store. plan_none e is;
        turned = subst (λ (ps : List Piece). AreTurns known (names_of ps) due (names_held held) (names_held held) log log) (sym (looks_none e is))
            (turned_all known tt due [] (names_held held) (names_held held) log log (turned_begin known (names_held held) log));
        looks = no_more s (segment_bound cut asked t number);
      }

  -- ---- over the pieces that are looked at

  module _ (ps : List Piece) (needs : segment_pieces cut asked t number ≡ Ok ps) (held held_now : List HeldMovie) (log log_now : Option (List Read)) where
    turned_of : (r : Result Planned Refusal) → AreTurns known (looked_names known edits asked ps) r (names_held held) (names_held held_now) log log_now
        → AreTurns known (names_of (segment_looks cut asked t number)) r (names_held held) (names_held held_now) log log_now
    turned_of r h = subst (λ (qs : List Piece). AreTurns known (names_of qs) r (names_held held) (names_held held_now) log log_now) (sym (looks_by ps needs)) h

    abbrev looked : ℕ
    looked = looked_count known edits asked ps * tracks_asked asked

    bound_of : (s s₁ : ℕ) → s₁ ≤ s + (4096 * looked + 8 * samples_in cut (cell_rows cut asked t number)) → s₁ ≤ s + segment_bound cut asked t number
    bound_of s s₁ h = subst (λ (qs : List Piece). s₁ ≤ s + (4096 * (length qs * tracks_asked asked) + 8 * samples_in cut (cell_rows cut asked t number))) (sym (looks_by ps needs)) h

    pub done_refused : (e : Refusal) (s s₁ : ℕ) → AreLooks known edits asked ps (Err e) held held_now log log_now → s₁ ≤ s + 1280 * looked → IsDone (Err e) held held_now log log_now s s₁
    done_refused e s s₁ looks most = record {
      answered = λ memory store. plan_by ps needs ∙ ap (λ (r : Result (List CheckedPiece) Refusal). r >>= λ pieces. found >>= rows_in pieces) (looks.answered memory store);
      turned = turned_of (Err e) (record { logged = looks.turned.logged; cache = looks.turned.cache });
      looks = bound_of s s₁ (bound_refused s s₁ looked (samples_in cut (cell_rows cut asked t number)) most);
    }

    module _ (n : NeededPieces) (looks : AreLooks known edits asked ps (Ok n) held held_now log log_now) where
      abbrev all : List CheckedPiece
      all = looks.answered.0

      planned_is : planned_wanted cut asked t number wanted ≡ (found >>= rows_in all)
      planned_is = plan_by ps needs ∙ ap (λ (r : Result (List CheckedPiece) Refusal). r >>= λ pieces. found >>= rows_in pieces) looks.answered.1

      pub count_is : looked_count known edits asked ps ≡ length n.pieces.items
      count_is = all_looked (checked known edits asked) ps all looks.answered.1 ∙ found_count all n.pieces.items looks.answered.2

      pub done_unplaced : (e : Refusal) (s s₁ s₂ : ℕ) → found ≡ Err e → s₁ ≤ s + 1280 * looked → s₂ ≤ s₁ + 256 * (length n.pieces.items * tracks_asked asked) → IsDone (Err e) held held_now log log_now s s₂
      done_unplaced e s s₁ s₂ none h i =
          let due : Result Planned Refusal = Err e in
          record {
            answered = λ memory store. planned_is ∙ ap (λ (r : Result Cell Refusal). r >>= rows_in all) none;
            turned = turned_of due (turned_all known n due (looked_names known edits asked ps) (names_held held) (names_held held_now) log log_now looks.turned);
            looks = bound_of s s₂ (bound_unplaced s s₁ s₂ looked (samples_in cut (cell_rows cut asked t number)) h
                (subst (λ (m : ℕ). s₂ ≤ s₁ + 256 * (m * tracks_asked asked)) (sym count_is) i));
          }

      pub done_found : (cell : Cell) (r : Result Planned Refusal) (s s₁ s₂ s₃ : ℕ) → found ≡ Ok cell → Answers plan_view r (rows_in all cell)
          → s₁ ≤ s + 1280 * looked → s₂ ≤ s₁ + 256 * (length n.pieces.items * tracks_asked asked)
          → s₃ ≤ s₂ + 2560 * (length n.pieces.items * tracks_asked asked) + 8 * samples_through (cell_of_rows all cell) → IsDone r held held_now log log_now s s₃
      done_found cell r s s₁ s₂ s₃ is answers h i j =
          let due : planned_wanted cut asked t number wanted ≡ rows_in all cell = planned_is ∙ ap (λ (r : Result Cell Refusal). r >>= rows_in all) is in
          let rows : cell_rows cut asked t number ≡ Ok (cell_of_rows all cell) =
          rows_by ps needs ∙ ap (λ (r : Result (List CheckedPiece) Refusal). r >>= λ pieces. found >>= λ cell. Ok (cell_of_rows pieces cell)) looks.answered.1
          ∙ ap (λ (r : Result Cell Refusal). r >>= λ cell. Ok (cell_of_rows all cell)) is in
          record {
            answered = answers_unless plan_view r (planned_wanted cut asked t number wanted) (subst (Answers plan_view r) (sym due) answers);
            turned = turned_of r (turned_all known n r (looked_names known edits asked ps) (names_held held) (names_held held_now) log log_now looks.turned);
            looks = bound_of s s₃ (subst (λ (x : Result TrackRows Refusal). s₃ ≤ s + (4096 * looked + 8 * samples_in cut x)) (sym rows)
                (bound_found s s₁ s₂ s₃ looked (samples_through (cell_of_rows all cell)) h
                (subst (λ (m : ℕ). s₂ ≤ s₁ + 256 * (m * tracks_asked asked)) (sym count_is) i)
                (subst (λ (m : ℕ). s₃ ≤ s₂ + 2560 * (m * tracks_asked asked) + 8 * samples_through (cell_of_rows all cell)) (sym count_is) j)));
          }

-- ---- where a number stands

module _ (known : Files) (edits : Bool) (g : SegmentGrid) (align : Bool) (asked : Asked) (t : Timeline) (number : ℕ) where
  abbrev cutting : Cutting
  cutting = cutting_of known g align edits

  abbrev place : Result Cell Refusal
  place = located_cell cutting asked t number

  by_place : place ≡ (place_among (counts cutting asked t) number >>= λ p. ok_or (slice_get t.parts p.0) (refusals.NoSegment number (sum (counts cutting asked t))) >>= λ part. Ok (cell_of cutting asked t part p.1))
  unfolding located_cell
  by_place = by_few (few_cells (sum (counts cutting asked t))) (ok_or (locate (counts cutting asked t) number) (refusals.NoSegment number (sum (counts cutting asked t)))) _
    where
      by_few : (few : Result (Unit {0}) Refusal) (r : Result (ℕ × ℕ) Refusal) (f : ℕ × ℕ → Result Cell Refusal) → (few >> (r >>= f)) ≡ ((few >> r) >>= f)
      by_few (Ok u) r f = refl
      by_few (Err e) r f = refl

  place_none : (e : Refusal) → place_among (counts cutting asked t) number ≡ Err e → place ≡ Err e
  place_none e is = by_place ∙ ap (λ (r : Result (ℕ × ℕ) Refusal). r >>= λ p. ok_or (slice_get t.parts p.0) (refusals.NoSegment number (sum (counts cutting asked t))) >>= λ part. Ok (cell_of cutting asked t part p.1)) is

  place_found : (i k : ℕ) (part : Part) → place_among (counts cutting asked t) number ≡ Ok (i, k) → slice_get t.parts i ≡ Some part → place ≡ Ok (cell_of cutting asked t part k)
  place_found i k part is at =
      by_place ∙ ap (λ (r : Result (ℕ × ℕ) Refusal). r >>= λ p. ok_or (slice_get t.parts p.0) (refusals.NoSegment number (sum (counts cutting asked t))) >>= λ part. Ok (cell_of cutting asked t part p.1)) is
      ∙ ap (λ (o : Option Part). ok_or o (refusals.NoSegment number (sum (counts cutting asked t))) >>= λ part. Ok (cell_of cutting asked t part k)) at

  cell_number : (part : Part) (k : ℕ) → (cell_of cutting asked t part k).number ≡ k
  unfolding cell_of
  cell_number part k = refl

  cell_grid : (part : Part) (k : ℕ) → is_some part.length_ms ≡ true
      → (cell_of cutting asked t part k).grid ≡ record { grid = g; align = align; start = part.start; cells = cells g (unwrap_or part.length_ms 0) }
  unfolding cell_of source_part length_of
  cell_grid part k declared = ap (λ (n : ℕ). record { grid = g; align = align; start = part.start; cells = cells g n }) (either_length part.length_ms declared _ 0)

  cell_pieces : (part : Part) (k : ℕ) → is_some part.length_ms ≡ true → let grid = (cell_of cutting asked t part k).grid in
      (cell_of cutting asked t part k).pieces
      ≡ cond (nat_lt (suc k) grid.cells) (through_first (λ p. begins grid (suc k) (source_of known edits asked p)) (from_first (piece_ends_after (cell_time grid k)) (part_pieces t part)))
      (from_first (piece_ends_after (cell_time grid k)) (part_pieces t part))
  unfolding cell_of source_part
  cell_pieces part k declared =
      let grid = part_grid g align (source_part known edits asked t part) in
      by_length part.length_ms declared
    where
      by_length : (o : Option ℕ) → is_some o ≡ true → let grid = part_grid g align (source_part known edits asked t part) in
          take (length (needed_pieces grid o k (map (source_of known edits asked) (part_pieces t part)))) (drop (skipped grid o k (map (source_of known edits asked) (part_pieces t part))) (part_pieces t part))
          ≡ cond (nat_lt (suc k) grid.cells) (through_first (λ p. begins grid (suc k) (source_of known edits asked p)) (from_first (piece_ends_after (cell_time grid k)) (part_pieces t part)))
          (from_first (piece_ends_after (cell_time grid k)) (part_pieces t part))
      by_length None h = absurd (true≢false (sym h))
      by_length (Some n) h =
          let grid = part_grid g align (source_part known edits asked t part) in
          needed_by-declared (source_of known edits asked) grid k (ends_after-source known edits asked (cell_time grid k)) n (part_pieces t part)

  needs_declared : is_declared t ≡ true → segment_pieces cutting asked t number ≡ (place >>= λ cell. Ok cell.pieces)
  unfolding segment_pieces
  needs_declared declared = rw declared refl

  needs_open : is_declared t ≡ false → segment_pieces cutting asked t number ≡ Ok t.pieces
  unfolding segment_pieces
  needs_open e = rw e refl

  counts_declared : (parts : List Part) → list_all (λ part. is_some part.length_ms) parts ≡ true → cell_counts g align (map (source_part known edits asked t) parts) ≡ declared_counts g parts
  unfolding source_part length_of
  counts_declared [] h = refl
  counts_declared (part ∷ parts) h =
      let both = and_parts (is_some part.length_ms) (list_all (λ q. is_some q.length_ms) parts) h in
      ap₂ (λ (n : ℕ) (ns : List ℕ). cells g n ∷ ns) (either_length part.length_ms both.0 _ 0) (counts_declared parts both.1)

  pub counts_are : is_declared t ≡ true → counts cutting asked t ≡ declared_counts g t.parts
  counts_are declared = counts_declared t.parts declared

part_declared : (parts : List Part) (i : ℕ) (part : Part) → list_all (λ q. is_some q.length_ms) parts ≡ true → slice_get parts i ≡ Some part → is_some part.length_ms ≡ true
part_declared [] i part h e = absurd cc
part_declared (q ∷ parts) zero part h e = subst (λ (p : Part). is_some p.length_ms ≡ true) (same_Some q part e) (and_parts (is_some q.length_ms) (list_all (λ q. is_some q.length_ms) parts) h).0
part_declared (q ∷ parts) (suc i) part h e = part_declared parts i part (and_parts (is_some q.length_ms) (list_all (λ q. is_some q.length_ms) parts) h).1 e

count_at : (g : SegmentGrid) (parts : List Part) (i : ℕ) (part : Part) (count : ℕ) → slice_get parts i ≡ Some part → slice_get (declared_counts g parts) i ≡ Some count → count ≡ cells g (unwrap_or part.length_ms 0)
count_at g [] i part count e f = absurd cc
count_at g (q ∷ parts) zero part count e f = sym (same_Some (cells g (unwrap_or q.length_ms 0)) count f) ∙ ap (λ (p : Part). cells g (unwrap_or p.length_ms 0)) (same_Some q part e)
count_at g (q ∷ parts) (suc i) part count e f = count_at g parts i part count e f

-- The number of a segment stands at the cell k of a part, which is cut so, and these are the part's pieces that end after the cell's boundary.
pub record StandsAt (g : SegmentGrid) (align : Bool) (t : Timeline) (number : ℕ) (cut_into : PartCells) (k : ℕ) (shown : List Piece) (next : Option (PartCells × ℕ)) : Type 0 where
  pub declared : is_declared t ≡ true
  pub place : ℕ
  pub part : Part
  pub among : place_among (declared_counts g t.parts) number ≡ Ok (place, k)
  pub at : slice_get t.parts place ≡ Some part
  pub grid : part_grid_of cut_into ≡ record { grid = g; align = align; start = part.start; cells = cells g (unwrap_or part.length_ms 0) }
  pub shown_is : shown ≡ from_first (piece_ends_after (cell_time (part_grid_of cut_into) k)) (part_pieces t part)
  pub next_is : next ≡ (if nat_lt (k + 1) cut_into.cells then Some (cut_into, k + 1) else None)

module _ (known : Files) (edits : Bool) (g : SegmentGrid) (align : Bool) (asked : Asked) (t : Timeline) (number : ℕ) (wanted : Wanted) (cut_into : PartCells) (k : ℕ) (shown : List Piece) (next : Option (PartCells × ℕ))
    (s : StandsAt g align t number cut_into k shown next) (held held_now : List HeldMovie) (log log_now : Option (List Read)) where
  abbrev the_cell : Cell
  the_cell = cell_of (cutting_of known g align edits) asked t s.part k

  declared_part : is_some s.part.length_ms ≡ true
  declared_part = part_declared t.parts s.place s.part s.declared s.at

  cell_found : located_cell (cutting_of known g align edits) asked t number ≡ Ok the_cell
  cell_found = place_found known edits g align asked t number s.place k s.part (ap (λ (ns : List ℕ). place_among ns number) (counts_are known edits g align asked t number s.declared) ∙ s.among) s.at

  needs : segment_pieces (cutting_of known g align edits) asked t number ≡ Ok the_cell.pieces
  needs = needs_declared known edits g align asked t number s.declared ∙ ap (λ (r : Result Cell Refusal). r >>= λ cell. Ok cell.pieces) cell_found

  grid_is : part_grid_of cut_into ≡ the_cell.grid
  grid_is = s.grid ∙ sym (cell_grid known edits g align asked t number s.part k declared_part)

  pub pieces_are : through_first (stops known edits asked next) shown ≡ the_cell.pieces
  pieces_are =
      ap (λ (n : Option (PartCells × ℕ)). through_first (stops known edits asked n) shown) s.next_is
      ∙ seen_next known edits asked the_cell.grid cut_into k shown grid_is
      ∙ ap (λ (ps : List Piece). cond (nat_lt (suc k) the_cell.grid.cells) (through_first (λ p. begins the_cell.grid (suc k) (source_of known edits asked p)) ps) ps)
      (s.shown_is ∙ ap (λ (grid : PartGrid). from_first (piece_ends_after (cell_time grid k)) (part_pieces t s.part)) grid_is)
      ∙ sym (cell_pieces known edits g align asked t number s.part k declared_part)

  abbrev seen : List Piece
  seen = through_first (stops known edits asked next) shown

  here : segment_pieces (cutting_of known g align edits) asked t number ≡ Ok seen
  here = needs ∙ ap (λ (ps : List Piece). Ok ps) (sym pieces_are)

  pub stands_refused : (e : Refusal) (x y : ℕ) → AreLooks known edits asked seen (Err e) held held_now log log_now → y ≤ x + 1280 * (looked_count known edits asked seen * tracks_asked asked)
      → IsDone known edits g align asked t number wanted (Err e) held held_now log log_now x y
  stands_refused e x y looks most = done_refused known edits g align asked t number wanted seen here held held_now log log_now e x y looks most

  pub stands_found : (n : NeededPieces) (r : Result Planned Refusal) (x y z : ℕ) → AreLooks known edits asked seen (Ok n) held held_now log log_now
      → ((cs : List CheckedPiece) → All (IsSoundPiece asked) cs → AreFoundOf cs n.pieces.items → Answers plan_view r (wanted_rows number wanted asked cs (lone_cell (part_grid_of cut_into) (timeline (map source_piece cs)) k)))
      → y ≤ x + 1280 * (looked_count known edits asked seen * tracks_asked asked)
      → ((cs : List CheckedPiece) → All (IsSoundPiece asked) cs → AreFoundOf cs n.pieces.items
      → z ≤ y + 2560 * (length n.pieces.items * tracks_asked asked) + 8 * samples_through (lone_cell (part_grid_of cut_into) (timeline (map source_piece cs)) k))
      → IsDone known edits g align asked t number wanted r held held_now log log_now x z
  stands_found n r x y z looks answers h j =
      let cs = looks.answered.0 in
      let sound = all_sound known edits asked seen cs looks.answered.1 in
      let rows : lone_cell (part_grid_of cut_into) (timeline (map source_piece cs)) k ≡ cell_of_rows known edits g align asked t number wanted cs the_cell =
      ap₂ (λ (grid : PartGrid) (i : ℕ). lone_cell grid (timeline (map source_piece cs)) i) grid_is (sym (cell_number known edits g align asked t number s.part k)) in
      done_found known edits g align asked t number wanted seen here held held_now log log_now n looks the_cell r x y y z cell_found
      (subst (λ (rows : TrackRows). Answers plan_view r (wanted_rows number wanted asked cs rows)) rows (answers cs sound looks.answered.2)) h
      (no_more y (256 * (length n.pieces.items * tracks_asked asked)))
      (subst (λ (rows : TrackRows). z ≤ y + 2560 * (length n.pieces.items * tracks_asked asked) + 8 * samples_through rows) rows (j cs sound looks.answered.2))

pub stands_at : (g : SegmentGrid) (align : Bool) (t : Timeline) (number : ℕ) (ns items : List ℕ) (ps : List Part) (place : ℕ × ℕ) (part : Part) (pieces shown : List Piece) (count : ℕ)
    (cut_into : PartCells) (time : ℤ) (next : Option (PartCells × ℕ)) → is_declared t ≡ true → ns ≡ items → items ≡ declared_counts g ps → ps ≡ t.parts → Ok place ≡ place_among ns number
    → slice_get t.parts place.0 ≡ Some part → place.0 < length items → count ≡ get_or items place.0 count
    → part_grid_of cut_into ≡ record { grid = g; align = align; start = part.start; cells = count } → pieces ≡ part_pieces t part → shown ≡ from_first (piece_ends_after time) pieces
    → time ≡ cell_time (part_grid_of cut_into) place.1 → next ≡ (if nat_lt (place.1 + 1) cut_into.cells then Some (cut_into, place.1 + 1) else None)
    → StandsAt g align t number cut_into place.1 shown next
stands_at g align t number ns items ps place part pieces shown count cut_into time next declared same are of among at within counted grid pieces_are shown_is times next_is =
    let all : items ≡ declared_counts g t.parts = are ∙ ap (declared_counts g) of in
    let read : slice_get items place.0 ≡ Some count = slice_get_read items (length items) place.0 count refl within counted in
    let many : count ≡ cells g (unwrap_or part.length_ms 0) = count_at g t.parts place.0 part count at (ap (λ (xs : List ℕ). slice_get xs place.0) (sym all) ∙ read) in
    record {
      declared = declared;
      place = place.0;
      part = part;
      among = sym (among ∙ ap (λ (xs : List ℕ). place_among xs number) (same ∙ all));
      at = at;
      grid = grid ∙ ap (λ (n : ℕ). record { grid = g; align = align; start = part.start; cells = n }) many;
      shown_is = shown_is ∙ ap₂ (λ (time : ℤ) (ps : List Piece). from_first (piece_ends_after time) ps) times pieces_are;
      next_is = next_is;
    }

-- a number that stands nowhere is refused before a look
pub done_nowhere : (known : Files) (edits : Bool) (g : SegmentGrid) (align : Bool) (asked : Asked) (t : Timeline) (number : ℕ) (wanted : Wanted) (ns items : List ℕ) (ps : List Part) (e : Refusal) (held : List HeldMovie) (log : Option (List Read)) (s : ℕ)
    → is_declared t ≡ true → ns ≡ items → items ≡ declared_counts g ps → ps ≡ t.parts → Err e ≡ place_among ns number → IsDone known edits g align asked t number wanted (Err e) held held log log s s
done_nowhere known edits g align asked t number wanted ns items ps e held log s declared same are of among =
    let none = place_none known edits g align asked t number e
    (ap (λ (xs : List ℕ). place_among xs number) (counts_are known edits g align asked t number declared ∙ sym (same ∙ are ∙ ap (declared_counts g) of)) ∙ sym among) in
    done_unread known edits g align asked t number wanted e held log s
    (needs_declared known edits g align asked t number declared ∙ ap (λ (r : Result Cell Refusal). r >>= λ cell. Ok cell.pieces) none)

-- ---- a timeline of one part without a declared length

pub some_part : (t : Timeline) → is_declared t ≡ false → 0 < length t.parts
some_part t e = by_parts t.parts e
  where
    by_parts : (parts : List Part) → list_all (λ part. is_some part.length_ms) parts ≡ false → 0 < length parts
    by_parts [] e = absurd (true≢false e)
    by_parts (p ∷ ps) e = omega arith

module _ (known : Files) (edits : Bool) (g : SegmentGrid) (align : Bool) (asked : Asked) (t : Timeline) (number : ℕ) (wanted : Wanted) (part : Part) (h : IsTimeline t.pieces t.parts) (open_end : is_declared t ≡ false) (at : slice_get t.parts 0 ≡ Some part)
    (shown : List Piece) (is : shown ≡ part_pieces t part) (held held_now : List HeldMovie) (log log_now : Option (List Read)) where
  pub whole_part : (part.length_ms ≡ None) × (part_pieces t part ≡ t.pieces)
  whole_part = undeclared_part t 0 part h open_end at

  abbrev seen_all : List Piece
  seen_all = through_first (stops known edits asked None) shown

  all_seen : seen_all ≡ t.pieces
  all_seen = seen_none known edits asked shown ∙ is ∙ whole_part.1

  all_needed : segment_pieces (cutting_of known g align edits) asked t number ≡ Ok seen_all
  all_needed = needs_open known edits g align asked t number open_end ∙ ap (λ (ps : List Piece). Ok ps) (sym all_seen)

  pub open_refused : (e : Refusal) (x y : ℕ) → AreLooks known edits asked seen_all (Err e) held held_now log log_now → y ≤ x + 1280 * (looked_count known edits asked seen_all * tracks_asked asked)
      → IsDone known edits g align asked t number wanted (Err e) held held_now log log_now x y
  open_refused e x y looks most = done_refused known edits g align asked t number wanted seen_all all_needed held held_now log log_now e x y looks most

  module _ (n : NeededPieces) (count : ℕ) (looks : AreLooks known edits asked seen_all (Ok n) held held_now log log_now)
      (counted : count ≡ cells g (milliseconds (lead_end part.start (rows_planned (lead_of asked) (map piece_view n.pieces.items)).lead))) where
    abbrev all_checked : List CheckedPiece
    all_checked = looks.answered.0

    checked_soundly : All (IsSoundPiece asked) all_checked
    checked_soundly = all_sound known edits asked seen_all all_checked looks.answered.1

    length_is : length_of (source_part known edits asked t part) ≡ milliseconds (lead_end part.start (rows_planned (lead_of asked) (map piece_view n.pieces.items)).lead)
    unfolding source_part length_of
    length_is =
        ap (λ (o : Option ℕ). unwrap_or o (milliseconds (lead_end part.start (timeline (map (source_of known edits asked) (part_pieces t part))).lead))) whole_part.0
        ∙ ap (λ (ps : List Piece). milliseconds (lead_end part.start (timeline (map (source_of known edits asked) ps)).lead)) (whole_part.1 ∙ sym all_seen)
        ∙ ap (λ (ss : List SourcePiece). milliseconds (lead_end part.start (timeline ss).lead)) (sources_are known edits asked seen_all all_checked looks.answered.1)
        ∙ ap (λ (rows : TrackRows). milliseconds (lead_end part.start rows.lead)) (sym (found_rows asked all_checked n.pieces.items checked_soundly looks.answered.2))

    pub counts_is : counts (cutting_of known g align edits) asked t ≡ count ∷ []
    counts_is =
        ap (λ (parts : List Part). cell_counts g align (map (source_part known edits asked t) parts)) (only t.parts at (no_length t.parts t.parts h.open_lengths open_end))
        ∙ ap (λ (n : ℕ). cells g n ∷ []) length_is ∙ ap (λ (n : ℕ). n ∷ []) (sym counted)
      where
        only : (parts : List Part) → slice_get parts 0 ≡ Some part → length parts ≡ 1 → parts ≡ part ∷ []
        only [] at one = absurd (omega (arith, one))
        only (p ∷ []) at one = ap (λ (p : Part). p ∷ []) (same_Some p part at)
        only (p ∷ q ∷ ps) at one = absurd (omega (arith, one))

    open_grid : (k : ℕ) → record { grid = g; align = align; start = part.start; cells = count } ≡ (cell_of (cutting_of known g align edits) asked t part k).grid
    unfolding cell_of source_part
    open_grid k = ap (λ (n : ℕ). record { grid = g; align = align; start = part.start; cells = n }) (counted ∙ ap (cells g) (sym length_is))

    pub open_unplaced : (e : Refusal) (x y z : ℕ) → Err e ≡ place_among (count ∷ []) number → y ≤ x + 1280 * (looked_count known edits asked seen_all * tracks_asked asked) → z ≤ y + 256 * (length n.pieces.items * tracks_asked asked)
        → IsDone known edits g align asked t number wanted (Err e) held held_now log log_now x z
    open_unplaced e x y z none i j =
        done_unplaced known edits g align asked t number wanted seen_all all_needed held held_now log log_now n looks e x y z
        (place_none known edits g align asked t number e (ap (λ (ns : List ℕ). place_among ns number) counts_is ∙ sym none)) i j

    pub open_found : (cut_into : PartCells) (place : ℕ × ℕ) (r : Result Planned Refusal) (x y z w : ℕ) → part_grid_of cut_into ≡ record { grid = g; align = align; start = part.start; cells = count }
        → place.0 < 1 → Ok place ≡ place_among (count ∷ []) number
        → ((cs : List CheckedPiece) → All (IsSoundPiece asked) cs → AreFoundOf cs n.pieces.items → Answers plan_view r (wanted_rows number wanted asked cs (lone_cell (part_grid_of cut_into) (timeline (map source_piece cs)) place.1)))
        → y ≤ x + 1280 * (looked_count known edits asked seen_all * tracks_asked asked) → z ≤ y + 256 * (length n.pieces.items * tracks_asked asked)
        → ((cs : List CheckedPiece) → All (IsSoundPiece asked) cs → AreFoundOf cs n.pieces.items
        → w ≤ z + 2560 * (length n.pieces.items * tracks_asked asked) + 8 * samples_through (lone_cell (part_grid_of cut_into) (timeline (map source_piece cs)) place.1))
        → IsDone known edits g align asked t number wanted r held held_now log log_now x w
    open_found cut_into place r x y z w grid within found answers i j l =
        let k = place.1 in
        let cell : Cell = cell_of (cutting_of known g align edits) asked t part k in
        let first : place.0 ≡ 0 = omega (arith, within) in
        let rows : lone_cell (part_grid_of cut_into) (timeline (map source_piece all_checked)) k ≡ cell_of_rows known edits g align asked t number wanted all_checked cell =
        ap₂ (λ (grid : PartGrid) (i : ℕ). lone_cell grid (timeline (map source_piece all_checked)) i) (grid ∙ open_grid k) (sym (cell_number known edits g align asked t number part k)) in
        done_found known edits g align asked t number wanted seen_all all_needed held held_now log log_now n looks cell r x y z w
        (place_found known edits g align asked t number 0 k part
        (ap (λ (ns : List ℕ). place_among ns number) counts_is ∙ sym found ∙ ap (λ (i : ℕ). Ok (i, k)) first) at)
        (subst (λ (rows : TrackRows). Answers plan_view r (wanted_rows number wanted asked all_checked rows)) rows (answers all_checked checked_soundly looks.answered.2)) i j
        (subst (λ (rows : TrackRows). w ≤ z + 2560 * (length n.pieces.items * tracks_asked asked) + 8 * samples_through rows) rows (l all_checked checked_soundly looks.answered.2))

-- ---- a whole segment, and one I-frame of it

planned_whole : (c : Cutting) (asked : Asked) (t : Timeline) (number : ℕ) (form : Form) → planned_wanted c asked t number (Whole form) ≡ planned_segment c asked t number form
unfolding planned_wanted planned_segment
planned_whole c asked t number form = refl

planned_alone : (c : Cutting) (video : ℕ) (t : Timeline) (number index : ℕ) → planned_wanted c (video_alone video) t number (Iframe index) ≡ planned_iframe c video t number index
unfolding planned_wanted planned_iframe
planned_alone c video t number index = refl

module _ (c : Cutting) (asked : Asked) (t : Timeline) (number : ℕ) (r : Result Planned Refusal) (held held_now : Cache) (log log_now : Option (List Read)) (s s₁ : ℕ) where
  pub came_whole : (form : Form) → IsPlannedBy c asked t number (Whole form) r held held_now log log_now s s₁
      → Came plan_view r (planned_segment c asked t number form) (turns c.files held (names_of (segment_looks c asked t number))).reads log log_now
  came_whole form done = record {
    answered = subst (λ (due : Result SegmentPlan Refusal). AnswersUnlessFailed plan_view r due) (planned_whole c asked t number form) done.answered;
    logged = done.turned.logged;
  }

  pub came_alone : (video index : ℕ) → asked ≡ video_alone video → IsPlannedBy c asked t number (Iframe index) r held held_now log log_now s s₁
      → Came plan_view r (planned_iframe c video t number index) (turns c.files held (names_of (segment_looks c asked t number))).reads log log_now
  came_alone video index only done = record {
    answered = subst (λ (due : Result SegmentPlan Refusal). AnswersUnlessFailed plan_view r due)
        (ap (λ (asked : Asked). planned_wanted c asked t number (Iframe index)) only ∙ planned_alone c video t number index) done.answered;
    logged = done.turned.logged;
  }
