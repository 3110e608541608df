-- What is due for the listed segments of a sequence, with the turns and looks for it.
use Rattle.std.proofs.Common.{◌≡◌, ℕ, ◌+◌, ◌*◌, ◌<◌, ◌≤◌, Bool, true, false, List, [], ◌∷◌, length, map, take, drop, pos, Option, None, IfOk, IfErr, Result, Ok, Err, slice_range, All, refl, sym, ap, ap₂, ◌∙◌, subst, arith}
use Rattle.std.specs.Prelude.{sum}
use Rattle.std.specs.Bool.{then_some}
use Rattle.std.specs.Result.{result_unwrap_or}
use Rattle.std.proofs.lemmas.Bool.{lt-ltb, le-ltb}
use Rattle.std.proofs.lemmas.List.{length-map, take_all}
use Rattle.vod_types.specs.declared.refusal.Refusal.{Refusal}
use Rattle.vod_types.specs.declared.refusal.Refusal.TheVariants.{NoMemory, TooManySegments}
use Rattle.vod_types.specs.declared.tracks.Asked.{Asked}
use Rattle.vod_types.specs.declared.tracks.Kind.TheVariants.{Audio, Video}
use Rattle.vod_types.specs.Lists.{through_first}
use Rattle.vod_types.specs.Results.{◌>>=◌, Answers, each_in_turn, unless}
use Rattle.vod_types.specs.Tracks.{lead_of}
use Rattle.vod_types.proofs.RuleLemmas.{same_ok}
use Rattle.vod_types.proofs.StepLemmas.{bind_ok}
use Rattle.clip_model.specs.declared.Part.{Part}
use Rattle.clip_model.specs.declared.Piece.{Piece}
use Rattle.clip_model.specs.IsTimeline.{Follow, IsTimeline}
use Rattle.clip_model.specs.Timeline.{Timeline}
use Rattle.segment_model.specs.Cut.{listed}
use Rattle.segment_model.specs.Grid.{SegmentGrid, cell_counts}
use Rattle.segment_model.specs.Laws.{AreTimelineRows}
use Rattle.segment_model.specs.Listing.{ListedSegment}
use Rattle.segment_model.specs.Timeline.{SourcePiece, SourcePart, timeline}
use Rattle.segment_model.proofs.Timelines.{timeline_is}
use Rattle.vod_source.specs.Stored.{Files, Read}
use Rattle.vod_source.proofs.CallLemmas.{answers_unless}
use Rattle.origin_model.specs.Loaded.{CheckedPiece, checked, unread_piece}
use Rattle.origin_model.specs.Plans.{Cutting, all_pieces, counts, few_cells, pieces_or_none, planned_rows, rows_looks}
use Rattle.origin_model.specs.Sources.{is_declared, part_pieces, source_of, source_part, source_parts, source_piece}
use Rattle.origin_model.proofs.Entries.{planned_rows-whole}
use Rattle.origin_model.proofs.NeededFiles.{piece_of-checked}
use Rattle.origin_model.proofs.SoundPieces.{all_sound}
use Rattle.origin_model.proofs.WritablePlans.{pieces_from_zero}
use Rattle.seq_cells.specs.Cells.{declared_counts, stops}
use Rattle.vod_meta.specs.Held.{HeldMovie, names_held}
use Rattle.vod_plan.specs.declared.needed.NeededPieces.{NeededPieces}
use Rattle.vod_plan.specs.declared.spans.PlanPiece.{PlanPiece}
use Rattle.vod_plan.specs.ListingParts.{counts_over, part_over, AreListedBy, ArePiecesOfParts}
use Rattle.vod_plan.specs.Looks.{names_of, rows_bound, tracks_asked}
use Rattle.vod_plan.specs.Narrowed.{IsSound}
use Rattle.vod_plan.specs.Needed.{looked_count, looked_names, looked_pieces, AreFoundPieces, AreLooks}
use Rattle.vod_plan.specs.Spans.{IsPlanPiece}
use Rattle.vod_plan.specs.Planned.{cutting_of}
use Rattle.vod_plan.specs.Turned.{AreTurns}
use Rattle.vod_plan.proofs.CacheLemmas.{turned_all, turned_begin, turned_unbegun}
use Rattle.vod_plan.proofs.CellPlans.{found_few, kept_rows}
use Rattle.vod_plan.proofs.FoundLemmas.{found_count}
use Rattle.vod_plan.proofs.ListingRests.{slice-map}
use Rattle.vod_plan.proofs.SegmentLemmas.{all_looked, counts_are, no_more, seen_none, sources_are}

-- ---- few cells, or too many

pub cells_many : (all cells : ℕ) → all ≡ cells → 100000 < all → few_cells cells ≡ Err (TooManySegments all)
unfolding few_cells
cells_many all cells e many =
    ap (λ b. unless (then_some b (TooManySegments cells))) (lt-ltb 100000 cells (omega (arith, e, many))) ∙ ap (λ n. Err (TooManySegments n)) (sym e)

pub cells_few : (cells : ℕ) → cells ≤ 100000 → few_cells cells ≡ Ok tt
unfolding few_cells
cells_few cells few = ap (λ b. unless (then_some b (TooManySegments cells))) (le-ltb 100000 cells few)

pub few_same : (ns ms : List ℕ) → ns ≡ ms → sum ms ≤ 100000 → sum ns ≤ 100000
few_same ns ms e few = subst (λ (ks : List ℕ). sum ks ≤ 100000) (sym e) few

-- ---- checked pieces

module _ (known : Files) (edits : Bool) (asked : Asked) where
  piece_is : (p : Piece) (c : CheckedPiece) → checked known edits asked p ≡ Ok c → c.piece ≡ p
  piece_is p c e = ap (λ r. (result_unwrap_or r (unread_piece p)).piece) (sym e) ∙ piece_of-checked known edits asked p

  pieces_are : (ps : List Piece) (cs : List CheckedPiece) → each_in_turn (checked known edits asked) ps ≡ Ok cs → map (λ c. c.piece) cs ≡ ps
  pieces_are [] cs e = ap (map (λ c. c.piece)) (let none : cs ≡ [] = sym (same_ok [] cs e) in none)
  pieces_are (p ∷ ps) cs e =
      let first = bind_ok (checked known edits asked p) (λ c. each_in_turn (checked known edits asked) ps >>= λ ds. Ok (c ∷ ds)) cs e in
      let rest = bind_ok (each_in_turn (checked known edits asked) ps) (λ ds. Ok (first.0 ∷ ds)) cs first.2 in
      ap (map (λ c. c.piece)) (sym (same_ok (first.0 ∷ rest.0) cs rest.2)) ∙ ap₂ (λ (q : Piece) (qs : List Piece). q ∷ qs) (piece_is p first.0 first.1) (pieces_are ps rest.0 rest.1)

  -- the rows of each part keep their order
  parts_order : (t : Timeline) (all : List CheckedPiece) → IsTimeline t.pieces t.parts → map (λ c. c.piece) all ≡ t.pieces → (part : Part) → AreTimelineRows (pos 0) (timeline (part_over (map source_piece all) part).pieces)
  parts_order t all h are part =
      let own = slice_range all part.first (part.first + part.count) in
      let of : map (λ c. c.piece) own ≡ take (length (part_pieces t part)) (drop 0 (part_pieces t part)) =
      sym (slice-map (λ c. c.piece) part.first (part.first + part.count) all) ∙ ap (λ ps. slice_range ps part.first (part.first + part.count)) are
      ∙ sym (take_all (length (part_pieces t part)) (part_pieces t part) (omega arith)) in
      subst (λ ps. AreTimelineRows (pos 0) (timeline ps)) (sym (slice-map source_piece part.first (part.first + part.count) all))
      (timeline_is 0 (pos 0) (map source_piece own) (pieces_from_zero t part 0 (length (part_pieces t part)) own h of))

  module _ (t : Timeline) (all : List CheckedPiece) (are : map (source_of known edits asked) t.pieces ≡ map source_piece all) where
    part_is : (part : Part) → source_part known edits asked t part ≡ part_over (map source_piece all) part
    unfolding source_part
    part_is part =
        ap (λ (ps : List SourcePiece). let q : SourcePart = record { start = part.start; length_ms = part.length_ms; pieces = ps } in q)
        (sym (slice-map (source_of known edits asked) part.first (part.first + part.count) t.pieces) ∙ ap (λ (ps : List SourcePiece). slice_range ps part.first (part.first + part.count)) are)

    parts_are : source_parts known edits asked t ≡ map (part_over (map source_piece all)) t.parts
    parts_are = each t.parts
      where
        each : (parts : List Part) → map (source_part known edits asked t) parts ≡ map (part_over (map source_piece all)) parts
        each [] = refl
        each (p ∷ ps) = ap₂ (λ (q : SourcePart) (qs : List SourcePart). q ∷ qs) (part_is p) (each ps)

ok_all : {A E : Type 0} (r : Result A E) (P Q : A → Type 0) → IfOk r P → ((x : A) → P x → Q x) → IfOk r Q
ok_all (Ok x) P Q h all = all x h
ok_all (Err e) P Q h all = tt

-- ---- pieces that were found

pub sound_found : (asked : Asked) (pieces : List Piece) (found shown : List PlanPiece) → shown ≡ found → AreFoundPieces asked pieces found → All IsPlanPiece found → All IsSound shown
sound_found asked pieces found shown same of all =
    let video = kept_rows Video asked pieces found of in
    let audio = kept_rows Audio asked pieces found of in
    subst (All IsSound) (sym same) (λ k d lt. record { piece = all k d lt; video = video k d lt; audio = audio k d lt })

pub few_found : (asked : Asked) (pieces : List Piece) (found shown : List PlanPiece) → shown ≡ found → AreFoundPieces asked pieces found → length pieces ≤ 1024 → length shown ≤ 1024
few_found asked pieces found shown same of few = subst (λ (ps : List PlanPiece). length ps ≤ 1024) (sym same) (found_few asked pieces found of few)

-- ---- numbers of looks

bound_refused : (s s₁ x y : ℕ) → s₁ ≤ s + 1280 * x → s₁ ≤ s + (4096 * x + 1024 * y)
bound_refused s s₁ x y h = omega (arith, h)

bound_late : (s s₁ s₂ x y : ℕ) → s₁ ≤ s + 1280 * x → s₂ ≤ s₁ + 256 * x → s₂ ≤ s + (4096 * x + 1024 * y)
bound_late s s₁ s₂ x y h i = omega (arith, h, i)

bound_listed : (s s₁ s₂ s₃ x y : ℕ) → s₁ ≤ s + 1280 * x → s₂ ≤ s₁ + 256 * x → s₃ ≤ s₂ + 1408 * x + 640 * y → s₃ ≤ s + (4096 * x + 1024 * y)
bound_listed s s₁ s₂ s₃ x y h i j = omega (arith, h, i, j)

-- ---- what is due

module _ (known : Files) (edits : Bool) (g : SegmentGrid) (align : Bool) (asked : Asked) (t : Timeline) {X : Type 0} (view : X → List ListedSegment) (held held_now : List HeldMovie) (log log_now : Option (List Read)) where
  abbrev pub cut : Cutting
  cut = cutting_of known g align edits

  abbrev due : Result (List ListedSegment) Refusal
  due = planned_rows cut asked t

  abbrev pub all_cells : ℕ
  all_cells = sum (counts cut asked t)

  abbrev pub IsDone : Result X Refusal → List HeldMovie → Option (List Read) → ℕ → ℕ → Type 0
  IsDone r now log_then s s₁ = AreListedBy view cut asked t r (names_held held) (names_held now) log log_then s s₁

  all_many : (e : Refusal) → is_declared t ≡ true → few_cells all_cells ≡ Err e → all_pieces cut asked t ≡ Err e
  unfolding all_pieces
  all_many e declared many = rw declared (rw many refl)

  all_few : is_declared t ≡ true → few_cells all_cells ≡ Ok tt → all_pieces cut asked t ≡ Ok t.pieces
  unfolding all_pieces
  all_few declared few = rw declared (rw few refl)

  pub all_open : is_declared t ≡ false → all_pieces cut asked t ≡ Ok t.pieces
  unfolding all_pieces
  all_open declared = rw declared refl

  pub declared_all : (ns : List ℕ) → is_declared t ≡ true → ns ≡ declared_counts g t.parts → sum ns ≤ 100000 → (ns ≡ counts cut asked t) × (all_pieces cut asked t ≡ Ok t.pieces)
  declared_all ns declared same few =
      let are : ns ≡ counts cut asked t = same ∙ sym (counts_are known edits g align asked t 0 declared) in
      (are, all_few declared (cells_few all_cells (subst (λ (ns : List ℕ). sum ns ≤ 100000) are few)))

  due_many : (e : Refusal) → all_pieces cut asked t ≡ Err e → due ≡ Err e
  unfolding planned_rows
  due_many e many = rw many refl

  due_refused : (e : Refusal) → all_pieces cut asked t ≡ Ok t.pieces → each_in_turn (checked known edits asked) t.pieces ≡ Err e → due ≡ Err e
  unfolding planned_rows
  due_refused e all refused = rw all (rw refused refl)

  due_late : (e : Refusal) (cs : List CheckedPiece) → all_pieces cut asked t ≡ Ok t.pieces → each_in_turn (checked known edits asked) t.pieces ≡ Ok cs → few_cells all_cells ≡ Err e → due ≡ Err e
  unfolding planned_rows
  due_late e cs all checked many = rw all (rw checked (rw many refl))

  looks_none : (e : Refusal) → all_pieces cut asked t ≡ Err e → rows_looks cut asked t ≡ []
  looks_none e many = ap (λ (r : Result (List Piece) Refusal). looked_pieces known edits asked (pieces_or_none r)) many

  looks_all : all_pieces cut asked t ≡ Ok t.pieces → rows_looks cut asked t ≡ looked_pieces known edits asked t.pieces
  looks_all all = ap (λ (r : Result (List Piece) Refusal). looked_pieces known edits asked (pieces_or_none r)) all

  -- memory ran out before the first look
  pub done_unbegun : (e : Refusal) (s : ℕ) → e ≡ NoMemory → IsDone (Err e) held log s s
  done_unbegun e s is = record {
    answered = λ memory store. absurd (memory is);
    turned = turned_unbegun known X e (names_of (rows_looks cut asked t)) (names_held held) log is;
    looks = no_more s (rows_bound cut asked t);
  }

  -- too many cells are declared
  pub done_many : (e : Refusal) (ns : List ℕ) (s : ℕ) → is_declared t ≡ true → ns ≡ declared_counts g t.parts → few_cells (sum ns) ≡ Err e → IsDone (Err e) held log s s
  done_many e ns s declared same many =
      let none = all_many e declared (ap (λ (ns : List ℕ). few_cells (sum ns)) (counts_are known edits g align asked t 0 declared ∙ sym same) ∙ many) in
      let refused : Result X Refusal = Err e in
      record {
        answered = λ memory store. due_many e none;
        turned = subst (λ (ps : List Piece). AreTurns known (names_of ps) refused (names_held held) (names_held held) log log) (sym (looks_none e none))
            (turned_all known tt refused [] (names_held held) (names_held held) log log (turned_begin known (names_held held) log));
        looks = no_more s (rows_bound cut asked t);
      }

  -- pieces are looked at
  module _ (all : all_pieces cut asked t ≡ Ok t.pieces) (shown : List Piece) (is : shown ≡ t.pieces) where
    abbrev seen : List Piece
    seen = through_first (stops known edits asked None) shown

    all_seen : seen ≡ t.pieces
    all_seen = seen_none known edits asked shown ∙ is

    pub bound_is : rows_bound cut asked t ≡ 4096 * (looked_count known edits asked seen * tracks_asked asked) + 1024 * all_cells
    bound_is =
        ap (λ (ps : List Piece). 4096 * (length ps * tracks_asked asked) + 1024 * all_cells) (looks_all all)
        ∙ ap (λ (ps : List Piece). 4096 * (looked_count known edits asked ps * tracks_asked asked) + 1024 * all_cells) (sym all_seen)

    names_are : names_of (rows_looks cut asked t) ≡ looked_names known edits asked seen
    names_are = ap names_of (looks_all all) ∙ ap (λ (ps : List Piece). looked_names known edits asked ps) (sym all_seen)

    pub done_refused : (e : Refusal) (s s₁ : ℕ) → AreLooks known edits asked seen (Err e) held held_now log log_now → s₁ ≤ s + 1280 * (looked_count known edits asked seen * tracks_asked asked)
        → IsDone (Err e) held_now log_now s s₁
    done_refused e s s₁ looks most = record {
      answered = λ memory store. due_refused e all (ap (λ (ps : List Piece). each_in_turn (checked known edits asked) ps) (sym all_seen) ∙ looks.answered memory store);
      turned = subst (λ (names : List (List ℕ)). AreTurns {X = X} known names (Err e) (names_held held) (names_held held_now) log log_now) (sym names_are) (turned_err looks.turned);
      looks = subst (λ (b : ℕ). s₁ ≤ s + b) (sym bound_is) (bound_refused s s₁ (looked_count known edits asked seen * tracks_asked asked) all_cells most);
    }
      where
        turned_err : AreTurns {X = NeededPieces} known (looked_names known edits asked seen) (Err e) (names_held held) (names_held held_now) log log_now
            → AreTurns {X = X} known (looked_names known edits asked seen) (Err e) (names_held held) (names_held held_now) log log_now
        turned_err turned = record { logged = turned.logged; cache = turned.cache }

    module _ (n : NeededPieces) (looks : AreLooks known edits asked seen (Ok n) held held_now log log_now) where
      abbrev pub all_checked : List CheckedPiece
      all_checked = looks.answered.0

      pub checked_all : each_in_turn (checked known edits asked) t.pieces ≡ Ok all_checked
      checked_all = ap (λ (ps : List Piece). each_in_turn (checked known edits asked) ps) (sym all_seen) ∙ looks.answered.1

      pub turned_of : (r : Result X Refusal) → AreTurns known (names_of (rows_looks cut asked t)) r (names_held held) (names_held held_now) log log_now
      turned_of r =
          subst (λ (names : List (List ℕ)). AreTurns known names r (names_held held) (names_held held_now) log log_now) (sym names_are)
          (turned_all known n r (looked_names known edits asked seen) (names_held held) (names_held held_now) log log_now looks.turned)

      pub found_parts : IsTimeline t.pieces t.parts → ArePiecesOfParts asked n.pieces.items all_checked
      found_parts h = record {
        sound = all_sound known edits asked t.pieces all_checked checked_all;
        are = looks.answered.2;
        order = parts_order known edits asked t all_checked h (pieces_are known edits asked t.pieces all_checked checked_all);
      }

      pub sources_over : source_parts known edits asked t ≡ map (part_over (map source_piece all_checked)) t.parts
      sources_over = parts_are known edits asked t all_checked (sources_are known edits asked t.pieces all_checked checked_all)

      pub counts_checked : counts cut asked t ≡ counts_over g align all_checked t.parts
      counts_checked = ap (cell_counts g align) sources_over

      pub count_is : looked_count known edits asked seen ≡ length t.pieces
      count_is =
          all_looked (checked known edits asked) seen all_checked looks.answered.1
          ∙ sym (length-map all_checked (λ c. c.piece))
          ∙ ap (λ (ps : List Piece). length ps) (pieces_are known edits asked t.pieces all_checked checked_all)

      pub many_found : length n.pieces.items ≡ looked_count known edits asked seen
      many_found = sym (all_looked (checked known edits asked) seen all_checked looks.answered.1 ∙ found_count all_checked n.pieces.items looks.answered.2)

      more_found : (s s₁ : ℕ) → s₁ ≤ s + 256 * (length n.pieces.items * tracks_asked asked) → s₁ ≤ s + 256 * (looked_count known edits asked seen * tracks_asked asked)
      more_found s s₁ more = subst (λ (m : ℕ). s₁ ≤ s + 256 * (m * tracks_asked asked)) many_found more

      -- there are too many cells
      pub done_late : (e : Refusal) (s s₁ s₂ : ℕ) → few_cells all_cells ≡ Err e → s₁ ≤ s + 1280 * (looked_count known edits asked seen * tracks_asked asked)
          → s₂ ≤ s₁ + 256 * (length n.pieces.items * tracks_asked asked) → IsDone (Err e) held_now log_now s s₂
      done_late e s s₁ s₂ many most more = record {
        answered = λ memory store. due_late e all_checked all checked_all many;
        turned = turned_of (Err e);
        looks = subst (λ (b : ℕ). s₂ ≤ s + b) (sym bound_is) (bound_late s s₁ s₂ (looked_count known edits asked seen * tracks_asked asked) all_cells most (more_found s₁ s₂ more));
      }

      -- all are listed
      pub done_listed : (r : Result X Refusal) (s s₁ s₂ s₃ : ℕ) → all_cells ≤ 100000
          → IfOk r (λ out. view out ≡ listed (lead_of asked) g align (map (part_over (map source_piece all_checked)) t.parts)) → IfErr r (λ refusal. refusal ≡ NoMemory)
          → s₁ ≤ s + 1280 * (looked_count known edits asked seen * tracks_asked asked) → s₂ ≤ s₁ + 256 * (looked_count known edits asked seen * tracks_asked asked)
          → s₃ ≤ s₂ + 1408 * (length t.pieces * tracks_asked asked) + 640 * all_cells → IsDone r held_now log_now s s₃
      done_listed r s s₁ s₂ s₃ few listed_are only most more last = record {
        answered = answers_unless view r due (answers r listed_are only);
        turned = turned_of r;
        looks = subst (λ (b : ℕ). s₃ ≤ s + b) (sym bound_is)
            (bound_listed s s₁ s₂ s₃ (looked_count known edits asked seen * tracks_asked asked) all_cells most more
            (subst (λ (m : ℕ). s₃ ≤ s₂ + 1408 * (m * tracks_asked asked) + 640 * all_cells) (sym count_is) last));
      }
        where
          answers : (r : Result X Refusal) → IfOk r (λ out. view out ≡ listed (lead_of asked) g align (map (part_over (map source_piece all_checked)) t.parts)) → IfErr r (λ refusal. refusal ≡ NoMemory) → Answers view r due
          answers (Err e) listed_are only = λ other. absurd (other only)
          answers (Ok out) listed_are only =
              planned_rows-whole cut asked t all_checked checked_all (cells_few all_cells few)
              ∙ ap Ok (ap (listed (lead_of asked) g align) sources_over ∙ sym listed_are)

      -- those of parts that are listed over the pieces that were found
      pub done_parts : (r : Result X Refusal) (ns : List ℕ) (ps : List Part) (found : List PlanPiece) (s s₁ s₂ s₃ : ℕ) → IsTimeline t.pieces t.parts → ps ≡ t.parts → found ≡ n.pieces.items → ns ≡ counts cut asked t → sum ns ≤ 100000
          → IfOk r (λ out. (cs : List CheckedPiece) → ArePiecesOfParts asked found cs → ns ≡ counts_over g align cs ps → view out ≡ listed (lead_of asked) g align (map (part_over (map source_piece cs)) ps))
          → IfErr r (λ refusal. refusal ≡ NoMemory)
          → s₁ ≤ s + 1280 * (looked_count known edits asked seen * tracks_asked asked) → s₂ ≤ s₁ + 256 * (length n.pieces.items * tracks_asked asked)
          → ((cs : List CheckedPiece) (m : ℕ) → ArePiecesOfParts asked found cs → Follow 0 ps m → s₃ ≤ s₂ + 1408 * (m * tracks_asked asked) + 640 * sum ns)
          → IsDone r held_now log_now s s₃
      done_parts r ns ps found s s₁ s₂ s₃ h ps_is found_is ns_is few listed_are only most more last =
          let parts = subst (λ (found : List PlanPiece). ArePiecesOfParts asked found all_checked) (sym found_is) (found_parts h) in
          let follow = subst (λ (ps : List Part). Follow 0 ps (length t.pieces)) (sym ps_is) h.follow in
          let counts_over_is : ns ≡ counts_over g align all_checked ps = ns_is ∙ counts_checked ∙ ap (counts_over g align all_checked) (sym ps_is) in
          done_listed r s s₁ s₂ s₃ (subst (λ (ns : List ℕ). sum ns ≤ 100000) ns_is few)
          (ok_all r _ _ listed_are (λ out due. due all_checked parts counts_over_is ∙ ap (λ (ps : List Part). listed (lead_of asked) g align (map (part_over (map source_piece all_checked)) ps)) ps_is))
          only most (more_found s₁ s₂ more)
          (subst (λ (k : ℕ). s₃ ≤ s₂ + 1408 * (length t.pieces * tracks_asked asked) + 640 * k) (ap sum ns_is) (last all_checked (length t.pieces) parts follow))
