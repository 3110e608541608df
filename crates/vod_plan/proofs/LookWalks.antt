-- Looks at pieces, one after another.
use Rattle.std.proofs.Common.{◌≡◌, ◌≢◌, ℕ, zero, suc, ◌+◌, ◌≤◌, Bool, true, false, cond, List, [], ◌∷◌, ◌++◌, length, map, take, drop, Option, Some, None, Result, Ok, Err, refl, sym, ap, ap₂, ◌∙◌, subst, arith, append_assoc, append-nil, length-append}
use Rattle.std.specs.Prelude.{is_err}
use Rattle.std.specs.List.{list_any, position_or_len}
use Rattle.std.specs.Option.{option_map_or}
use Rattle.std.specs.Result.{result_unwrap_or}
use Rattle.std.proofs.lemmas.List.{length-map, map-append}
use Rattle.std.proofs.lemmas.List.Elements.{All-nil, All-cons, All-append}
use Rattle.vod_types.specs.declared.refusal.Refusal.{Refusal}
use Rattle.vod_types.specs.declared.refusal.Refusal.TheVariants.{NoMemory, StoreFailed}
use Rattle.vod_types.specs.declared.tracks.Asked.{Asked}
use Rattle.vod_types.specs.declared.tracks.Kind.{Kind}
use Rattle.vod_types.specs.Lists.{through_first}
use Rattle.vod_types.specs.Results.{◌>>=◌, each_in_turn}
use Rattle.vod_types.specs.Tracks.{lead_of}
use Rattle.mp4_model.specs.Movie.{Movie}
use Rattle.clip_model.specs.declared.Piece.{Piece}
use Rattle.segment_model.specs.Grid.{may_begin}
use Rattle.segment_model.specs.Needed.{begins}
use Rattle.vod_source.specs.Stored.{Files, Read}
use Rattle.origin_model.specs.Loaded.{CheckedPiece, checked, loaded, unread_piece}
use Rattle.origin_model.specs.Sources.{source_piece}
use Rattle.origin_model.specs.Writable.{IsSoundPiece}
use Rattle.origin_model.proofs.SoundPieces.{checked_in_sound, checked_sound}
use Rattle.seq_cells.specs.Cells.{part_grid_of, stops}
use Rattle.seq_cells.specs.declared.cells.PartCells.{PartCells}
use Rattle.vod_meta.specs.Held.{HeldMovie, names_held}
use Rattle.vod_plan.specs.declared.needed.NeededPieces.{NeededPieces}
use Rattle.vod_plan.specs.declared.spans.PlanPiece.{PlanPiece}
use Rattle.vod_plan.specs.declared.tracks.CheckedTracks.{CheckedTracks}
use Rattle.vod_plan.specs.Needed.{looked_count, looked_names, looked_pieces, piece_rows, AreFoundOf, AreFoundPieces, AreLooks, FoundOne, IsFoundFor, IsFoundPiece, IsLook, IsLookWalk}
use Rattle.vod_plan.specs.Spans.{piece_view}
use Rattle.vod_plan.specs.Tracks.{checked_in, checked_view}
use Rattle.vod_plan.specs.Turned.{AreTurns}
use Rattle.vod_plan.proofs.CacheLemmas.{turned_all, turned_begin, turned_ended, turned_then}
use Rattle.vod_plan.proofs.FoundLemmas.{found_more, lead_is, leading_asked}

take_one_more : {X : Type 0} (count : ℕ) (xs : List X) (x : X) (rest : List X) → drop count xs ≡ x ∷ rest → take (count + 1) xs ≡ take count xs ++ x ∷ []
take_one_more zero [] x rest e = absurd cc
take_one_more {X = X} zero (y ∷ xs) x rest e = let same : y ≡ x = cc in ap (λ (y : X). y ∷ []) same
take_one_more (suc count) [] x rest e = absurd cc
take_one_more {X = X} (suc count) (y ∷ xs) x rest e =
    let n : suc count + 1 ≡ suc (count + 1) = omega arith in
    ap (λ (n : ℕ). take n (y ∷ xs)) n ∙ ap (λ (ys : List X). y ∷ ys) (take_one_more count xs x rest e)

-- ---- lists through an element

through_stop : {X : Type 0} (test : X → Bool) (x : X) (xs : List X) → test x ≡ true → through_first test (x ∷ xs) ≡ x ∷ []
through_stop test x xs e = rw e refl

through_more : {X : Type 0} (test : X → Bool) (x : X) (xs : List X) → test x ≡ false → through_first test (x ∷ xs) ≡ x ∷ through_first test xs
through_more test x xs e =
    let n : 1 + position_or_len test xs + 1 ≡ suc (position_or_len test xs + 1) = omega arith in
    rw e (ap (λ (n : ℕ). take n (x ∷ xs)) n)

-- ---- one piece

module _ (files : Files) (edits : Bool) (asked : Asked) (piece : Piece) where
  checked-by : checked files edits asked piece ≡ (loaded files piece.name >>= checked_in edits asked piece)
  unfolding checked checked_in
  checked-by = refl

  pub not_loaded : (e : Refusal) → loaded files piece.name ≡ Err e → checked files edits asked piece ≡ Err e
  not_loaded e is = checked-by ∙ ap (λ (r : Result Movie Refusal). r >>= checked_in edits asked piece) is

  pub was_loaded : (m : Movie) → loaded files piece.name ≡ Ok m → checked files edits asked piece ≡ checked_in edits asked piece m
  was_loaded m is = checked-by ∙ ap (λ (r : Result Movie Refusal). r >>= checked_in edits asked piece) is

  module _ (held now : List HeldMovie) (log log_now : Option (List Read)) where
    abbrev Turns : {X : Type 0} → Result X Refusal → Type 0
    Turns {X} r = AreTurns {X = X} files (piece.name ∷ []) r (names_held held) (names_held now) log log_now

    -- the metadata weren't loaded
    pub look_unloaded : {X : Type 0} (e : Refusal) → (e ≢ NoMemory → e ≢ StoreFailed → loaded files piece.name ≡ Err e) → Turns {X = X} (Err e) → IsLook files edits asked piece (Err e) held now log log_now
    look_unloaded e answered turned = record { answered = λ memory store. not_loaded e (answered memory store); turned = record { logged = turned.logged; cache = turned.cache } }

    module _ {X : Type 0} (x : X) (m : Movie) (is : loaded files piece.name ≡ Ok m) (turned : Turns (Ok x)) where
      -- the checks were refused
      pub look_unchecked : (e : Refusal) → (e ≢ NoMemory → checked_in edits asked piece m ≡ Err e) → IsLook files edits asked piece (Err e) held now log log_now
      look_unchecked e refused = record {
        answered = λ memory store. was_loaded m is ∙ refused memory;
        turned = turned_all files x (Err e) (piece.name ∷ []) (names_held held) (names_held now) log log_now turned;
      }

      -- the piece was found
      pub look_found : (c : CheckedPiece) (p : PlanPiece) → checked_in edits asked piece m ≡ Ok c → IsFoundPiece c p → IsLook files edits asked piece (Ok p) held now log log_now
      look_found c p good found = record {
        answered = (c, was_loaded m is ∙ good, found);
        turned = turned_all files x (Ok p) (piece.name ∷ []) (names_held held) (names_held now) log log_now turned;
      }

-- a piece that is checked has its asked tracks
pub view_sound : (edits : Bool) (asked : Asked) (piece : Piece) (tracks : CheckedTracks) (m : Movie) → checked_in edits asked piece m ≡ Ok (checked_view piece tracks) → IsSoundPiece asked (checked_view piece tracks)
unfolding checked_in
view_sound edits asked piece tracks m e = checked_in_sound edits asked piece m (checked_view piece tracks) e

-- ---- what is left of the looks

module _ (files : Files) (edits : Bool) (asked : Asked) where
  abbrev fails : Piece → Bool
  fails p = is_err (checked files edits asked p)

  looked_good : (p : Piece) (later : List Piece) (c : CheckedPiece) → checked files edits asked p ≡ Ok c → looked_names files edits asked (p ∷ later) ≡ (p.name ∷ []) ++ looked_names files edits asked later
  looked_good p later c e = ap (map (λ (p : Piece). p.name)) (through_more fails p later (ap (λ (r : Result CheckedPiece Refusal). is_err r) e))

  looked_bad : (p : Piece) (later : List Piece) (r : Refusal) → checked files edits asked p ≡ Err r → looked_names files edits asked (p ∷ later) ≡ p.name ∷ []
  looked_bad p later r e = ap (map (λ (p : Piece). p.name)) (through_stop fails p later (ap (λ (r : Result CheckedPiece Refusal). is_err r) e))

  -- the first is looked at in any case
  looked_first : (p : Piece) (later : List Piece) → (rest : List (List ℕ)) × (looked_names files edits asked (p ∷ later) ≡ (p.name ∷ []) ++ rest)
  looked_first p later = by_check (checked files edits asked p) refl
    where
      by_check : (r : Result CheckedPiece Refusal) → checked files edits asked p ≡ r → (rest : List (List ℕ)) × (looked_names files edits asked (p ∷ later) ≡ (p.name ∷ []) ++ rest)
      by_check (Ok c) e = (looked_names files edits asked later, looked_good p later c e)
      by_check (Err r) e = ([], looked_bad p later r e)

  looked_many : (pieces : List Piece) → length (looked_names files edits asked pieces) ≡ looked_count files edits asked pieces
  looked_many pieces = length-map (looked_pieces files edits asked pieces) (λ (p : Piece). p.name)

  module _ (pieces : List Piece) (found : List PlanPiece) (held held_now : List HeldMovie) (log log_now : Option (List Read)) where
    abbrev WalkAt : List Piece → Type 0
    WalkAt left = IsLookWalk files edits asked pieces left found held held_now log log_now

    -- as many as were found were looked at
    pub count_whole : WalkAt [] → length found ≡ looked_count files edits asked pieces
    count_whole w =
        let many = looked_many pieces in
        let all = ap (λ (ns : List (List ℕ)). length ns) w.names in
        omega (arith, many, all, length-append w.before [], w.many)

    -- and one more where one is left
    pub count_more : (p : Piece) (later : List Piece) → WalkAt (p ∷ later) → length found + 1 ≤ looked_count files edits asked pieces
    count_more p later w =
        let many = looked_many pieces in
        let first = looked_first p later in
        let all = ap (λ (ns : List (List ℕ)). length ns) (w.names ∙ ap (λ (ns : List (List ℕ)). w.before ++ ns) first.1) in
        omega (arith, many, all, length-append w.before ((p.name ∷ []) ++ first.0), length-append (p.name ∷ []) first.0, w.many)

    module _ (p : Piece) (later : List Piece) (w : WalkAt (p ∷ later)) (held_then : List HeldMovie) (log_then : Option (List Read)) where
      -- a piece was found
      pub walk_on : (rows : PlanPiece) → IsLook files edits asked p (Ok rows) held_now held_then log_now log_then → IsLookWalk files edits asked pieces later (found ++ rows ∷ []) held held_then log log_then
      walk_on rows look =
          let c = look.answered.0 in
          record {
            done = w.done ++ c ∷ [];
            rest = w.rest ∙ ap (λ (r : Result CheckedPiece Refusal). (r >>= λ y. each_in_turn (checked files edits asked) later >>= λ ys. Ok (y ∷ ys)) >>= λ all. Ok (w.done ++ all)) look.answered.1
                ∙ moved c (each_in_turn (checked files edits asked) later);
            are = found_more w.done found c rows w.are look.answered.2;
            before = w.before ++ p.name ∷ [];
            many = length-append w.before (p.name ∷ []) ∙ ap (λ (n : ℕ). n + 1) w.many ∙ sym (length-append found (rows ∷ []));
            names = w.names ∙ ap (λ (ns : List (List ℕ)). w.before ++ ns) (looked_good p later c look.answered.1) ∙ sym (append_assoc w.before (p.name ∷ []) (looked_names files edits asked later));
            turned = turned_then files tt (Ok tt) w.before (p.name ∷ []) (names_held held) (names_held held_now) (names_held held_then) log log_now log_then w.turned
                (turned_all files rows (Ok tt) (p.name ∷ []) (names_held held_now) (names_held held_then) log_now log_then look.turned);
          }
        where
          moved : (c : CheckedPiece) (r : Result (List CheckedPiece) Refusal) → ((r >>= λ ys. Ok (c ∷ ys)) >>= λ all. Ok (w.done ++ all)) ≡ (r >>= λ ys. Ok ((w.done ++ c ∷ []) ++ ys))
          moved c (Ok ys) = ap Ok (sym (append_assoc w.done (c ∷ []) ys))
          moved c (Err e) = refl

      -- it was refused, or a call was cut short
      pub walk_refused : (e : Refusal) → IsLook files edits asked p (Err e) held_now held_then log_now log_then → AreLooks files edits asked pieces (Err e) held held_then log log_then
      walk_refused e look =
          let due : Result PlanPiece Refusal = Err e in
          let first = looked_first p later in
          let turned = turned_ended files PlanPiece e (p.name ∷ []) first.0 (names_held held_now) (names_held held_then) log_now log_then look.turned
          (λ memory store. no_more first.0 (sym first.1 ∙ looked_bad p later e (look.answered memory store))) in
          let all = turned_then files tt due w.before ((p.name ∷ []) ++ first.0) (names_held held) (names_held held_now) (names_held held_then) log log_now log_then w.turned turned in
          let named = subst (λ (ns : List (List ℕ)). AreTurns {X = PlanPiece} files ns (Err e) (names_held held) (names_held held_then) log log_then)
          (sym (w.names ∙ ap (λ (ns : List (List ℕ)). w.before ++ ns) first.1)) all in
          record {
            answered = λ memory store. w.rest
                ∙ ap (λ (r : Result CheckedPiece Refusal). (r >>= λ y. each_in_turn (checked files edits asked) later >>= λ ys. Ok (y ∷ ys)) >>= λ all. Ok (w.done ++ all)) (look.answered memory store);
            turned = record { logged = named.logged; cache = named.cache };
          }
        where
          no_more : (rest : List (List ℕ)) → (p.name ∷ []) ++ rest ≡ p.name ∷ [] → rest ≡ []
          no_more rest e = cc

      -- it was found, and then memory ran out
      pub walk_cut : (rows : PlanPiece) → IsLook files edits asked p (Ok rows) held_now held_then log_now log_then → AreLooks files edits asked pieces (Err NoMemory) held held_then log log_then
      walk_cut rows look =
          walk_refused NoMemory (record {
            answered = λ memory store. absurd (memory refl);
            turned = turned_all files rows (Err NoMemory) (p.name ∷ []) (names_held held_now) (names_held held_then) log_now log_then look.turned;
          })

    -- none is left
    pub walk_whole : (n : NeededPieces) → n.pieces.items ≡ found → WalkAt [] → AreLooks files edits asked pieces (Ok n) held held_now log log_now
    walk_whole n same w =
        let all = turned_all files tt (Ok n) w.before (names_held held) (names_held held_now) log log_now w.turned in
        let named = subst (λ (ns : List (List ℕ)). AreTurns files ns (Ok n) (names_held held) (names_held held_now) log log_now) (sym (w.names ∙ append-nil w.before)) all in
        record {
          answered = (w.done, w.rest ∙ ap Ok (append-nil w.done), subst (λ (ps : List PlanPiece). AreFoundOf w.done ps) (sym same) w.are);
          turned = named;
        }

  -- nothing was looked at yet
  pub walk_begin : (pieces : List Piece) (found : List PlanPiece) (held : List HeldMovie) (log : Option (List Read)) → found ≡ [] → IsLookWalk files edits asked pieces pieces found held held log log
  walk_begin pieces found held log none = record {
    done = [];
    rest = rest (each_in_turn (checked files edits asked) pieces);
    are = subst (λ (ps : List PlanPiece). AreFoundOf [] ps) (sym none) tt;
    before = [];
    many = ap (λ (ps : List PlanPiece). length ps) (sym none);
    names = refl;
    turned = turned_begin files (names_held held) log;
  }
    where
      rest : (r : Result (List CheckedPiece) Refusal) → r ≡ (r >>= λ later. Ok ([] ++ later))
      rest (Ok xs) = refl
      rest (Err e) = refl

  -- ---- the next cell

  pub stops_is : (next : Option (PartCells × ℕ)) (kind : Kind) (p : Piece) (rows : PlanPiece) → kind ≡ lead_of asked → FoundOne files edits asked p (Ok rows)
      → option_map_or (λ n. list_any (may_begin (part_grid_of n.0) n.1) (piece_rows kind 0 (piece_view rows))) next false ≡ stops files edits asked next p
  stops_is None kind p rows leads found = refl
  stops_is (Some n) kind p rows leads found =
      let c = found.0 in
      ap (list_any (may_begin (part_grid_of n.0) n.1)) (lead_is kind c (piece_view rows) 0 found.2.selected (leading_asked asked c (checked_sound files edits asked p c found.1) ∙ sym leads))
      ∙ ap (λ (r : Result CheckedPiece Refusal). begins (part_grid_of n.0) n.1 (source_piece (result_unwrap_or r (unread_piece p)))) (sym found.1)

-- ---- the loop, from a piece on

module _ (files : Files) (edits : Bool) (asked : Asked) (next : Option (PartCells × ℕ)) where
  abbrev pub left : List Piece → List Piece
  left ps = through_first (stops files edits asked next) ps

  left_is : (ps rest : List Piece) (p : Piece) → ps ≡ p ∷ rest → left ps ≡ p ∷ cond (stops files edits asked next p) [] (left rest)
  left_is ps rest p e = ap left e ∙ by_test (stops files edits asked next p) refl
    where
      by_test : (b : Bool) → stops files edits asked next p ≡ b → left (p ∷ rest) ≡ p ∷ cond (stops files edits asked next p) [] (left rest)
      by_test true e = through_stop (stops files edits asked next) p rest e ∙ ap (λ (b : Bool). p ∷ cond b [] (left rest)) (sym e)
      by_test false e = through_more (stops files edits asked next) p rest e ∙ ap (λ (b : Bool). p ∷ cond b [] (left rest)) (sym e)

  module _ (pieces ps rest : List Piece) (p : Piece) (found : List PlanPiece) (held held_now : List HeldMovie) (log log_now : Option (List Read)) (e : ps ≡ p ∷ rest)
      (w : IsLookWalk files edits asked (left pieces) (left ps) found held held_now log log_now) where
    abbrev behind_piece : List Piece
    behind_piece = cond (stops files edits asked next p) [] (left rest)

    from_piece : IsLookWalk files edits asked (left pieces) (p ∷ behind_piece) found held held_now log log_now
    from_piece = subst (λ (later : List Piece). IsLookWalk files edits asked (left pieces) later found held held_now log log_now) (left_is ps rest p e) w

    pub loop_count : length found + 1 ≤ looked_count files edits asked (left pieces)
    loop_count = count_more files edits asked (left pieces) found held held_now log log_now p behind_piece from_piece

    module _ (held_then : List HeldMovie) (log_then : Option (List Read)) where
      pub loop_refused : (r : Refusal) → IsLook files edits asked p (Err r) held_now held_then log_now log_then → AreLooks files edits asked (left pieces) (Err r) held held_then log log_then
      loop_refused r look = walk_refused files edits asked (left pieces) found held held_now log log_now p behind_piece from_piece held_then log_then r look

      module _ (rows : PlanPiece) (look : IsLook files edits asked p (Ok rows) held_now held_then log_now log_then) where
        pub loop_cut : AreLooks files edits asked (left pieces) (Err NoMemory) held held_then log log_then
        loop_cut = walk_cut files edits asked (left pieces) found held held_now log log_now p behind_piece from_piece held_then log_then rows look

        module _ (kind : Kind) (leads : kind ≡ lead_of asked) (now : List PlanPiece) (same : now ≡ found ++ rows ∷ []) where
          after_look : (b : Bool) → option_map_or (λ n. list_any (may_begin (part_grid_of n.0) n.1) (piece_rows kind 0 (piece_view rows))) next false ≡ b
              → IsLookWalk files edits asked (left pieces) (cond b [] (left rest)) now held held_then log log_then
          after_look b is =
              subst (λ (ps : List PlanPiece). IsLookWalk files edits asked (left pieces) (cond b [] (left rest)) ps held held_then log log_then) (sym same)
              (subst (λ (t : Bool). IsLookWalk files edits asked (left pieces) (cond t [] (left rest)) (found ++ rows ∷ []) held held_then log log_then)
              (sym (stops_is files edits asked next kind p rows leads look.answered) ∙ is)
              (walk_on files edits asked (left pieces) found held held_now log log_now p behind_piece from_piece held_then log_then rows look))

          pub loop_on : option_map_or (λ n. list_any (may_begin (part_grid_of n.0) n.1) (piece_rows kind 0 (piece_view rows))) next false ≡ false
              → IsLookWalk files edits asked (left pieces) (left rest) now held held_then log log_then
          loop_on is = after_look false is

          pub loop_ended : (n : NeededPieces) → n.pieces.items ≡ now → option_map_or (λ n. list_any (may_begin (part_grid_of n.0) n.1) (piece_rows kind 0 (piece_view rows))) next false ≡ true
              → AreLooks files edits asked (left pieces) (Ok n) held held_then log log_then
          loop_ended n is stopped = walk_whole files edits asked (left pieces) now held held_then log log_then n is (after_look true stopped)

  -- no piece is left
  module _ (pieces ps : List Piece) (found : List PlanPiece) (held held_now : List HeldMovie) (log log_now : Option (List Read)) (none : ps ≡ [])
      (w : IsLookWalk files edits asked (left pieces) (left ps) found held held_now log log_now) where
    whole_walk : IsLookWalk files edits asked (left pieces) [] found held held_now log log_now
    whole_walk = subst (λ (later : List Piece). IsLookWalk files edits asked (left pieces) later found held held_now log log_now) (ap left none) w

    pub loop_through : (n : NeededPieces) → n.pieces.items ≡ found → AreLooks files edits asked (left pieces) (Ok n) held held_now log log_now
    loop_through n same = walk_whole files edits asked (left pieces) found held held_now log log_now n same whole_walk

    pub through_count : length found ≡ looked_count files edits asked (left pieces)
    through_count = count_whole files edits asked (left pieces) found held held_now log log_now whole_walk

-- ---- whatever the store tells

pub none_found : (asked : Asked) (pieces : List Piece) (found : List PlanPiece) → found ≡ [] → AreFoundPieces asked pieces found
none_found asked pieces found none = record {
  checked = [];
  of = ap (λ (ps : List PlanPiece). take (length ps) pieces) (sym none);
  sound = All-nil (IsSoundPiece asked);
  are = subst (λ (ps : List PlanPiece). AreFoundOf [] ps) (sym none) tt;
}

pub one_found : (asked : Asked) (pieces : List Piece) (found now : List PlanPiece) (p : Piece) (rows : PlanPiece) (count : ℕ) → AreFoundPieces asked pieces found → length found ≡ count → drop count pieces ≡ p ∷ drop (count + 1) pieces
    → IsFoundFor asked p rows → now ≡ found ++ rows ∷ [] → AreFoundPieces asked pieces now
one_found asked pieces found now p rows count h many at is same =
    let c = is.checked_piece in
    let longer : count + 1 ≡ length now = ap (λ (n : ℕ). n + 1) (sym many) ∙ sym (length-append found (rows ∷ [])) ∙ ap (λ (ps : List PlanPiece). length ps) (sym same) in
    record {
      checked = h.checked ++ c ∷ [];
      of = map-append (λ (c : CheckedPiece). c.piece) h.checked (c ∷ [])
          ∙ ap₂ (λ (ps : List Piece) (q : Piece). ps ++ q ∷ []) (h.of ∙ ap (λ (n : ℕ). take n pieces) many) is.of
          ∙ sym (take_one_more count pieces p (drop (count + 1) pieces) at) ∙ ap (λ (n : ℕ). take n pieces) longer;
      sound = All-append (IsSoundPiece asked) h.checked (c ∷ []) h.sound (All-cons (IsSoundPiece asked) c [] is.sound (All-nil (IsSoundPiece asked)));
      are = subst (λ (ps : List PlanPiece). AreFoundOf (h.checked ++ c ∷ []) ps) (sym same) (found_more h.checked found c rows h.are is.found);
    }
