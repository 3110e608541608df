-- Looks at pieces, one after another.
use Rattle.std.proofs.Common.{◌≡◌, ℕ, zero, suc, ◌+◌, ◌≤◌, ◌||◌, Bool, true, false, cond, List, [], ◌∷◌, ◌++◌, length, map, take, drop, Option, Some, None, Result, Ok, Err, refl, sym, ap, ap₂, ◌∙◌, subst, arith, ◌-◌, append_assoc, append-nil, ℤ, length-append}
use Rattle.std.specs.Prelude.{is_err, is_some}
use Rattle.std.specs.List.{list_any, position_or_len}
use Rattle.std.specs.Result.{result_unwrap_or}
use Rattle.std.proofs.lemmas.List.{length-map, map-append, drop-map, take_all, length-drop}
use Rattle.std.proofs.lemmas.List.Elements.{All-nil, All-cons, All-append}
use Rattle.std.specs.Option.{option_map_or}
use Rattle.vod_types.specs.declared.refusal.Refusal.{Refusal}
use Rattle.vod_types.specs.declared.tracks.Asked.{Asked}
use Rattle.vod_types.specs.declared.tracks.Kind.TheVariants.{Video}
use Rattle.vod_types.specs.Lists.{through_first}
use Rattle.vod_types.specs.Results.{◌>>=◌, each_in_turn}
use Rattle.mp4_model.specs.GoodTracks.{GoodTrack}
use Rattle.clip_model.specs.declared.Piece.{Piece}
use Rattle.segment_model.specs.Grid.{PartGrid, may_begin}
use Rattle.segment_model.specs.Needed.{begins}
use Rattle.segment_model.specs.Rows.{TimedRow}
use Rattle.segment_model.specs.Timeline.{SourcePiece, TrackRows, timeline, timeline_from, placed, placed_lead, placed_other, selected_lead}
use Rattle.vod_source.specs.Stored.{Files, Read, bytes_of}
use Rattle.vod_source.specs.Told.{told_with}
use Rattle.vod_source.proofs.ToldLemmas.{told_with-nil, told_with-more}
use Rattle.origin_model.specs.Loaded.{CheckedPiece, checked, unread_piece}
use Rattle.origin_model.specs.Reads.{Cache, turn, turns}
use Rattle.origin_model.specs.Sources.{source_piece}
use Rattle.origin_model.specs.Writable.{IsSoundIf, IsSoundPiece}
use Rattle.flat_samples.specs.Movies.{HeldMovie, names_held}
use Rattle.flat_segments.specs.Needed.{stops, AreOfFirst, AreTyped, IsAdded, AreNeeded, IsLook, AreLooks, IsWalk, looked_names}
use Rattle.flat_samples.specs.Rows.{timed_view, part_rows, rows_with, ArePlacedRows, IsPlacedRow}
use Rattle.flat_segments.specs.Cells.{part_grid_of}
use Rattle.flat_segments.specs.declared.cells.PartCells.{PartCells}
use Rattle.flat_segments.specs.declared.needed.NeededFile.{NeededFile}
use Rattle.flat_samples.specs.declared.samples.TimedSample.{TimedSample}
use Rattle.flat_segments.specs.Segments.{FileFacts, facts_of, file_of, SizesAreTrue}
use Rattle.flat_segments.specs.declared.needed.Needed.{Needed}
use Rattle.vod_source.proofs.CallLemmas.{LogsErr, logs_then, logs_ended}

take_one_more : {X : Type 0} (count : ℕ) (xs : List X) (x : X) (rest : List X) → drop count xs ≡ x ∷ rest → take (count + 1) xs ≡ take count xs ++ x ∷ []
take_one_more zero [] x rest e = absurd cc
take_one_more {X = X} zero (y ∷ xs) x rest e = let same : y ≡ x = cc in ap (λ (y : X). y ∷ []) same
take_one_more (suc count) [] x rest e = absurd cc
take_one_more {X = X} (suc count) (y ∷ xs) x rest e =
    let n : suc count + 1 ≡ suc (count + 1) = omega arith in
    ap (λ (n : ℕ). take n (y ∷ xs)) n ∙ ap (λ (ys : List X). y ∷ ys) (take_one_more count xs x rest e)

drop-append-length : (xs ys : List TimedRow) → drop (length xs) (xs ++ ys) ≡ ys
drop-append-length [] ys = refl
drop-append-length (x ∷ xs) ys = drop-append-length xs ys

-- ---- the rows of one more piece

abbrev two_lists : List TimedRow → List TimedRow → TrackRows
two_lists lead other = record { lead = lead; other = other }

timeline_one_more : (file : ℕ) (ps : List SourcePiece) (p : SourcePiece) → timeline_from file (ps ++ p ∷ []) ≡ rows_with (timeline_from file ps) (file + length ps) p
timeline_one_more file [] p =
    let at : file ≡ file + 0 = omega arith in
    ap₂ two_lists (append-nil (placed_lead file p) ∙ ap (λ (n : ℕ). placed_lead n p) at) (append-nil (placed_other file p) ∙ ap (λ (n : ℕ). placed_other n p) at)
timeline_one_more file (q ∷ ps) p =
    let ih = timeline_one_more (suc file) ps p in
    let at : suc file + length ps ≡ file + length (q ∷ ps) = omega arith in
    ap₂ two_lists
    (ap (λ (rows : TrackRows). placed_lead file q ++ rows.lead) ih
    ∙ sym (append_assoc (placed_lead file q) (timeline_from (suc file) ps).lead (placed_lead (suc file + length ps) p))
    ∙ ap (λ (n : ℕ). (placed_lead file q ++ (timeline_from (suc file) ps).lead) ++ placed_lead n p) at)
    (ap (λ (rows : TrackRows). placed_other file q ++ rows.other) ih
    ∙ sym (append_assoc (placed_other file q) (timeline_from (suc file) ps).other (placed_other (suc file + length ps) p))
    ∙ ap (λ (n : ℕ). (placed_other file q ++ (timeline_from (suc file) ps).other) ++ placed_other n p) at)

pub needed_one_more : (cs : List CheckedPiece) (c : CheckedPiece) (n now : Needed) → AreNeeded cs n → IsAdded c n now → AreNeeded (cs ++ c ∷ []) now
needed_one_more cs c n now needed added =
    let many : length n.files.items ≡ 0 + length (map source_piece cs) =
    sym (length-map n.files.items facts_of) ∙ ap (λ (fs : List FileFacts). length fs) needed.files ∙ length-map cs file_of ∙ sym (length-map cs source_piece) ∙ (let none : length (map source_piece cs) ≡ 0 + length (map source_piece cs) = omega arith in none) in
    record {
      files = ap (map facts_of) added.files ∙ map-append facts_of n.files.items (added.file ∷ [])
          ∙ ap₂ (λ (xs : List FileFacts) (x : FileFacts). xs ++ x ∷ []) needed.files added.of ∙ sym (map-append file_of cs (c ∷ []));
      rows = added.rows ∙ ap₂ (λ (rows : TrackRows) (i : ℕ). rows_with rows i (source_piece c)) needed.rows many
          ∙ sym (timeline_one_more 0 (map source_piece cs) (source_piece c)) ∙ ap timeline (sym (map-append source_piece cs (c ∷ [])));
    }

-- ---- lists through an element

pub through_stop : {X : Type 0} (test : X → Bool) (x : X) (xs : List X) → test x ≡ true → through_first test (x ∷ xs) ≡ x ∷ []
through_stop test x xs e = rw e refl

pub through_more : {X : Type 0} (test : X → Bool) (x : X) (xs : List X) → test x ≡ false → through_first test (x ∷ xs) ≡ x ∷ through_first test xs
through_more test x xs e =
    let n : 1 + position_or_len test xs + 1 ≡ suc (position_or_len test xs + 1) = omega arith in
    rw e (ap (λ (n : ℕ). take n (x ∷ xs)) n)

-- ---- what is left of the looks

module _ (files : Files) (edits : Bool) (asked : Asked) where
  abbrev fails : Piece → Bool
  fails p = is_err (checked files edits asked p)

  looked_good : (p : Piece) (later : List Piece) (c : CheckedPiece) → checked files edits asked p ≡ Ok c → looked_names files edits asked (p ∷ later) ≡ p.name ∷ looked_names files edits asked later
  looked_good p later c e = ap (map (λ (p : Piece). p.name)) (through_more fails p later (ap (λ (r : Result CheckedPiece Refusal). is_err r) e))

  looked_bad : (p : Piece) (later : List Piece) (r : Refusal) → checked files edits asked p ≡ Err r → looked_names files edits asked (p ∷ later) ≡ p.name ∷ []
  looked_bad p later r e = ap (map (λ (p : Piece). p.name)) (through_stop fails p later (ap (λ (r : Result CheckedPiece Refusal). is_err r) e))

  -- the first is looked at in any case
  looked_first : (p : Piece) (later : List Piece) → (rest : List (List ℕ)) × (looked_names files edits asked (p ∷ later) ≡ p.name ∷ rest)
  looked_first p later = by_check (checked files edits asked p) refl
    where
      by_check : (r : Result CheckedPiece Refusal) → checked files edits asked p ≡ r → (rest : List (List ℕ)) × (looked_names files edits asked (p ∷ later) ≡ p.name ∷ rest)
      by_check (Ok c) e = (looked_names files edits asked later, looked_good p later c e)
      by_check (Err r) e = ([], looked_bad p later r e)

  turns_first : (cache : Cache) (name : List ℕ) (names : List (List ℕ)) → (turns files cache (name ∷ names)).reads ≡ (turn files cache name).reads ++ (turns files (turn files cache name).cache names).reads
  unfolding turns
  turns_first cache name names = refl

  turns_none : (cache : Cache) → (turns files cache []).reads ≡ []
  unfolding turns
  turns_none cache = refl

  module _ (pieces : List Piece) (held : List HeldMovie) (n : Needed) (log log_now : Option (List Read)) where
    -- a piece was put behind the others
    pub walk_on : (p : Piece) (later : List Piece) (x : Unit {0}) (held_now : List HeldMovie) (now : Needed) (log_then : Option (List Read))
        → IsWalk files edits asked pieces (p ∷ later) held n log log_now → IsLook files edits asked p (Ok x) held held_now n now log_now log_then
        → IsWalk files edits asked pieces later held_now now log log_then
    walk_on p later x held_now now log_then w look =
        let c = look.taken.piece_checked in
        let read = (turn files (names_held held) p.name).reads in
        record {
          true_now = look.true_now;
          done = w.done ++ c ∷ [];
          rest = w.rest ∙ ap (λ (r : Result CheckedPiece Refusal). (r >>= λ y. each_in_turn (checked files edits asked) later >>= λ ys. Ok (y ∷ ys)) >>= λ all. Ok (w.done ++ all)) look.taken.checked
              ∙ moved (each_in_turn (checked files edits asked) later);
          needed = needed_one_more w.done c n now w.needed look.taken.added;
          sizes = look.taken.sizes w.sizes;
          made = w.made ++ read;
          reads = w.reads ∙ ap (λ (names : List (List ℕ)). w.made ++ (turns files (names_held held) names).reads) (looked_good p later c look.taken.checked)
              ∙ ap (λ (reads : List Read). w.made ++ reads) (turns_first (names_held held) p.name (looked_names files edits asked later))
              ∙ ap (λ (cache : Cache). w.made ++ (read ++ (turns files cache (looked_names files edits asked later)).reads)) (sym look.names)
              ∙ sym (append_assoc w.made read (turns files (names_held held_now) (looked_names files edits asked later)).reads);
          logged = told_with-more log log_now log_then w.made read w.logged look.logged;
        }
      where
        moved : (r : Result (List CheckedPiece) Refusal) → ((r >>= λ ys. Ok (look.taken.piece_checked ∷ ys)) >>= λ all. Ok (w.done ++ all)) ≡ (r >>= λ ys. Ok ((w.done ++ look.taken.piece_checked ∷ []) ++ ys))
        moved (Ok ys) = ap Ok (sym (append_assoc w.done (look.taken.piece_checked ∷ []) ys))
        moved (Err e) = refl

    -- a piece was refused, or a call was cut short
    pub walk_refused : (p : Piece) (later : List Piece) (e : Refusal) (held_now : List HeldMovie) (now : Needed) (log_then : Option (List Read))
        → IsWalk files edits asked pieces (p ∷ later) held n log log_now → IsLook files edits asked p (Err e) held held_now n now log_now log_then
        → AreLooks files edits asked pieces (Err e) log log_then
    walk_refused p later e held_now now log_then w look =
        let read = (turn files (names_held held) p.name).reads in
        let first = looked_first p later in
        let others = (turns files (turn files (names_held held) p.name).cache first.0).reads in
        let all : (turns files [] (looked_names files edits asked pieces)).reads ≡ w.made ++ (read ++ others) =
        w.reads ∙ ap (λ (names : List (List ℕ)). w.made ++ (turns files (names_held held) names).reads) first.1
        ∙ ap (λ (reads : List Read). w.made ++ reads) (turns_first (names_held held) p.name first.0) in
        record {
          answered = λ known_memory known_store. w.rest
              ∙ ap (λ (r : Result CheckedPiece Refusal). (r >>= λ y. each_in_turn (checked files edits asked) later >>= λ ys. Ok (y ∷ ys)) >>= λ all. Ok (w.done ++ all)) (look.taken known_memory known_store);
          logged = subst (λ (reads : List Read). LogsErr e reads log log_then) (sym all)
              (logs_then {X = Needed} (Err e) w.made (read ++ others) log log_now log_then w.logged
              (logs_ended e read others log_now log_then look.logged
              (λ known_memory known_store. none first.0 first.1 (look.taken known_memory known_store))));
        }
      where
        none : (rest : List (List ℕ)) → looked_names files edits asked (p ∷ later) ≡ p.name ∷ rest → checked files edits asked p ≡ Err e
            → (turns files (turn files (names_held held) p.name).cache rest).reads ≡ []
        none rest is refused = ap (λ (names : List (List ℕ)). (turns files (turn files (names_held held) p.name).cache names).reads) (no_more rest (sym is ∙ looked_bad p later e refused))
            ∙ turns_none (turn files (names_held held) p.name).cache
          where
            no_more : (rest : List (List ℕ)) → p.name ∷ rest ≡ p.name ∷ [] → rest ≡ []
            no_more rest e = cc

    -- none is left
    pub walk_whole : IsWalk files edits asked pieces [] held n log log_now → AreLooks files edits asked pieces (Ok n) log log_now
    walk_whole w = record {
      answered = record { all = w.done; checked = w.rest ∙ ap Ok (append-nil w.done); needed = w.needed; sizes = w.sizes };
      logged = w.logged ∙ ap (told_with log) (sym (w.reads ∙ ap (λ (reads : List Read). w.made ++ reads) (turns_none (names_held held)) ∙ append-nil w.made));
    }

-- ---- a row that may begin a cell, whatever its piece's place

begins_anywhere : (g : PartGrid) (k file other : ℕ) (base : ℤ) (rows : List TimedRow) → list_any (may_begin g k) (map (placed file base) rows) ≡ list_any (may_begin g k) (map (placed other base) rows)
begins_anywhere g k file other base [] = refl
begins_anywhere g k file other base (r ∷ rs) = ap (λ (b : Bool). may_begin g k (placed other base r) || b) (begins_anywhere g k file other base rs)

pub begins_at : (g : PartGrid) (k file : ℕ) (p : SourcePiece) → list_any (may_begin g k) (placed_lead file p) ≡ begins g k p
begins_at g k file p = begins_anywhere g k file 0 p.base (selected_lead p)

-- ---- what one more piece leaves of the loop

-- the lead rows behind those before
pub added_lead : (c : CheckedPiece) (n now : Needed) → IsAdded c n now → map timed_view now.rows.lead.items ≡ map timed_view n.rows.lead.items ++ placed_lead (length n.files.items) (source_piece c)
added_lead c n now added = ap (λ (rows : TrackRows). rows.lead) added.rows

pub longer : (c : CheckedPiece) (n now : Needed) → IsAdded c n now → length n.rows.lead.items ≤ length now.rows.lead.items
longer c n now added =
    let all = ap (λ (rows : List TimedRow). length rows) (added_lead c n now added) in
    let both = length-append (map timed_view n.rows.lead.items) (placed_lead (length n.files.items) (source_piece c)) in
    omega (arith, all, both, length-map n.rows.lead.items timed_view, length-map now.rows.lead.items timed_view)

pub one_file_more : (c : CheckedPiece) (n now : Needed) → IsAdded c n now → length now.files.items ≡ length n.files.items + 1
one_file_more c n now added = ap (λ (fs : List NeededFile). length fs) added.files ∙ length-append n.files.items (added.file ∷ [])

pub new_lead : (c : CheckedPiece) (n now : Needed) → IsAdded c n now → map timed_view (drop (length n.rows.lead.items) now.rows.lead.items) ≡ placed_lead (length n.files.items) (source_piece c)
new_lead c n now added =
    let before = map timed_view n.rows.lead.items in
    let new = placed_lead (length n.files.items) (source_piece c) in
    sym (drop-map timed_view (length n.rows.lead.items) now.rows.lead.items)
    ∙ ap₂ (λ (i : ℕ) (rows : List TimedRow). drop i rows) (sym (length-map n.rows.lead.items timed_view)) (added_lead c n now added)
    ∙ drop-append-length before new

-- the test of the code is that of the definition
pub stops_is : (files : Files) (edits : Bool) (asked : Asked) (next : Option (PartCells × ℕ)) (p : Piece) (c : CheckedPiece) (n now : Needed) → IsAdded c n now → checked files edits asked p ≡ Ok c
    → option_map_or (λ s. list_any (may_begin (part_grid_of s.0) s.1) (map timed_view (drop (length n.rows.lead.items) now.rows.lead.items))) next false ≡ stops files edits asked next p
stops_is files edits asked None p c n now added e = refl
stops_is files edits asked (Some s) p c n now added e =
    ap (list_any (may_begin (part_grid_of s.0) s.1)) (new_lead c n now added) ∙ begins_at (part_grid_of s.0) s.1 (length n.files.items) (source_piece c)
    ∙ ap (λ (r : Result CheckedPiece Refusal). begins (part_grid_of s.0) s.1 (source_piece (result_unwrap_or r (unread_piece p)))) (sym e)

-- a piece with its asked tracks has a type of video where video is asked
sound_typed : (asked : Asked) (c : CheckedPiece) → IsSoundPiece asked c → is_some c.video ≡ is_some asked.video
sound_typed asked c sound = by asked.video c.video sound.video
  where
    by : (number : Option ℕ) (track : Option GoodTrack) → IsSoundIf Video number track → is_some track ≡ is_some number
    by None None h = refl
    by None (Some t) h = absurd h
    by (Some n) None h = absurd h
    by (Some n) (Some t) h = refl

abbrev IsTyped : Asked → NeededFile → Type 0
IsTyped asked f = is_some f.video_type ≡ is_some asked.video

-- one more of the first pieces
pub of_one_more : (asked : Asked) (count : ℕ) (pieces : List Piece) (p : Piece) (c : CheckedPiece) (n now : Needed) → AreOfFirst asked count pieces n → drop count pieces ≡ p ∷ drop (count + 1) pieces
    → c.piece ≡ p → IsAdded c n now → IsSoundPiece asked c → ArePlacedRows (part_rows now.rows) → AreOfFirst asked (count + 1) pieces now
of_one_more asked count pieces p c n now of at is added sound bounds = record {
  checked = of.checked ++ c ∷ [];
  sound = All-append (IsSoundPiece asked) of.checked (c ∷ []) of.sound (All-cons (IsSoundPiece asked) c [] sound (All-nil (IsSoundPiece asked)));
  of = map-append (λ (c : CheckedPiece). c.piece) of.checked (c ∷ []) ∙ ap₂ (λ (ps : List Piece) (q : Piece). ps ++ q ∷ []) of.of is ∙ sym (take_one_more count pieces p (drop (count + 1) pieces) at);
  needed = needed_one_more of.checked c n now of.needed added;
  typed = subst (AreTyped asked) (sym added.files)
      (All-append (IsTyped asked) n.files.items (added.file ∷ []) of.typed (All-cons (IsTyped asked) added.file [] (added.typed ∙ sound_typed asked c sound) (All-nil (IsTyped asked))));
  placed = bounds;
}

-- nothing yet
pub none_walked : (files : Files) (edits : Bool) (asked : Asked) (pieces : List Piece) (n : Needed) (log : Option (List Read)) → n.files.items ≡ [] → part_rows n.rows ≡ two_lists [] [] → IsWalk files edits asked pieces pieces [] n log log
none_walked files edits asked pieces n log none rows = record {
  true_now = tt;
  done = [];
  rest = rest (each_in_turn (checked files edits asked) pieces);
  needed = record { files = ap (map facts_of) none; rows = rows };
  sizes = subst (SizesAreTrue files) (sym none) (All-nil (λ (f : NeededFile). length (bytes_of files f.name) ≡ f.size));
  made = [];
  reads = refl;
  logged = sym (told_with-nil log);
}
  where
    rest : (r : Result (List CheckedPiece) Refusal) → r ≡ (r >>= λ later. Ok ([] ++ later))
    rest (Ok xs) = refl
    rest (Err e) = refl

pub none_of_first : (asked : Asked) (pieces : List Piece) (n : Needed) → n.files.items ≡ [] → part_rows n.rows ≡ two_lists [] [] → AreOfFirst asked 0 pieces n
none_of_first asked pieces n none rows = record {
  checked = [];
  sound = All-nil (IsSoundPiece asked);
  of = refl;
  needed = record { files = ap (map facts_of) none; rows = rows };
  typed = subst (AreTyped asked) (sym none) (All-nil (IsTyped asked));
  placed = subst ArePlacedRows (sym rows) (record { lead = All-nil IsPlacedRow; other = All-nil IsPlacedRow });
}

-- ---- the loop, from a piece on

module _ (files : Files) (edits : Bool) (asked : Asked) (next : Option (PartCells × ℕ)) where
  abbrev left : List Piece → List Piece
  left ps = through_first (stops files edits asked next) ps

  left_is : (ps rest : List Piece) (p : Piece) → ps ≡ p ∷ rest → left ps ≡ p ∷ cond (stops files edits asked next p) [] (left rest)
  left_is ps rest p e = ap left e ∙ by_test (stops files edits asked next p) refl
    where
      by_test : (b : Bool) → stops files edits asked next p ≡ b → left (p ∷ rest) ≡ p ∷ cond (stops files edits asked next p) [] (left rest)
      by_test true e = through_stop (stops files edits asked next) p rest e ∙ ap (λ (b : Bool). p ∷ cond b [] (left rest)) (sym e)
      by_test false e = through_more (stops files edits asked next) p rest e ∙ ap (λ (b : Bool). p ∷ cond b [] (left rest)) (sym e)

  module _ (pieces ps rest : List Piece) (p : Piece) (held : List HeldMovie) (n : Needed) (log log_now : Option (List Read)) (e : ps ≡ p ∷ rest)
      (w : IsWalk files edits asked (left pieces) (left ps) held n log log_now) (held_now : List HeldMovie) (now : Needed) (log_then : Option (List Read)) where
    from_first_piece : IsWalk files edits asked (left pieces) (p ∷ cond (stops files edits asked next p) [] (left rest)) held n log log_now
    from_first_piece = subst (λ (later : List Piece). IsWalk files edits asked (left pieces) later held n log log_now) (left_is ps rest p e) w

    -- the look was refused
    pub loop_refused : (r : Refusal) → IsLook files edits asked p (Err r) held held_now n now log_now log_then → AreLooks files edits asked (left pieces) (Err r) log log_then
    loop_refused r look = walk_refused files edits asked (left pieces) held n log log_now p (cond (stops files edits asked next p) [] (left rest)) r held_now now log_then from_first_piece look

    -- it wasn't
    after_look : (x : Unit {0}) → IsLook files edits asked p (Ok x) held held_now n now log_now log_then → IsWalk files edits asked (left pieces) (cond (stops files edits asked next p) [] (left rest)) held_now now log log_then
    after_look x look = walk_on files edits asked (left pieces) held n log log_now p (cond (stops files edits asked next p) [] (left rest)) x held_now now log_then from_first_piece look

    -- the test of the code, which sees the rows that were added
    module _ (x : Unit {0}) (look : IsLook files edits asked p (Ok x) held held_now n now log_now log_then) (shown : List TimedSample) (same : shown ≡ drop (length n.rows.lead.items) now.rows.lead.items) where
      abbrev seen : Bool
      seen = option_map_or (λ s. list_any (may_begin (part_grid_of s.0) s.1) (map timed_view shown)) next false

      seen_is : seen ≡ stops files edits asked next p
      seen_is = ap (λ (rows : List TimedSample). option_map_or (λ s. list_any (may_begin (part_grid_of s.0) s.1) (map timed_view rows)) next false) same
          ∙ stops_is files edits asked next p look.taken.piece_checked n now look.taken.added look.taken.checked

      pub loop_on : seen ≡ false → IsWalk files edits asked (left pieces) (left rest) held_now now log log_then
      loop_on differs =
          subst (λ (b : Bool). IsWalk files edits asked (left pieces) (cond b [] (left rest)) held_now now log log_then) (sym seen_is ∙ differs) (after_look x look)

      pub loop_ended : seen ≡ true → AreLooks files edits asked (left pieces) (Ok now) log log_then
      loop_ended agrees =
          walk_whole files edits asked (left pieces) held_now now log log_then
          (subst (λ (b : Bool). IsWalk files edits asked (left pieces) (cond b [] (left rest)) held_now now log log_then) (sym seen_is ∙ agrees) (after_look x look))

-- no piece is left
pub loop_through : (files : Files) (edits : Bool) (asked : Asked) (next : Option (PartCells × ℕ)) (pieces ps : List Piece) (held : List HeldMovie) (n : Needed) (log log_now : Option (List Read))
    → ps ≡ [] → IsWalk files edits asked (through_first (stops files edits asked next) pieces) (through_first (stops files edits asked next) ps) held n log log_now
    → AreLooks files edits asked (through_first (stops files edits asked next) pieces) (Ok n) log log_now
loop_through files edits asked next pieces ps held n log log_now e w =
    walk_whole files edits asked (through_first (stops files edits asked next) pieces) held n log log_now
    (subst (λ (left : List Piece). IsWalk files edits asked (through_first (stops files edits asked next) pieces) left held n log log_now) (ap (through_first (stops files edits asked next)) e) w)

-- nothing is held yet
pub loop_begins : (files : Files) (edits : Bool) (asked : Asked) (pieces : List Piece) (held : List HeldMovie) (n : Needed) (log : Option (List Read)) → held ≡ [] → n.files.items ≡ [] → part_rows n.rows ≡ two_lists [] []
    → IsWalk files edits asked pieces pieces held n log log
loop_begins files edits asked pieces held n log e none rows = subst (λ (held : List HeldMovie). IsWalk files edits asked pieces pieces held n log log) (sym e) (none_walked files edits asked pieces n log none rows)

-- a slice from a place on
pub shown_is : (shown items : List TimedSample) (place n : ℕ) → shown ≡ items → place ≡ n → take (length shown - place) (drop place shown) ≡ drop n items
shown_is shown items place n e f =
    take_all (length shown - place) (drop place shown) (let all = length-drop place shown in omega (arith, all)) ∙ ap₂ (λ (i : ℕ) (xs : List TimedSample). drop i xs) f e
