-- The text of a master playlist, and what is read for it.
use Rattle.std.proofs.Common.{◌≡◌, ℕ, ◌+◌, Bool, not, cond, List, [], ◌∷◌, ◌++◌, map, take, Option, IfOk, IfErr, Result, Ok, Err, refl, sym, ap, ap₂, ◌∙◌, subst}
use Rattle.std.specs.Prelude.{flat_map, is_err, if◌then◌else◌}
use Rattle.std.specs.List.{position_or_len}
use Rattle.std.specs.Result.{result_unwrap_or}
use Rattle.std.proofs.lemmas.List.{map-append}
use Rattle.vod_types.specs.declared.paths.Leaf.TheVariants.{Master}
use Rattle.vod_types.specs.declared.refusal.Refusal.{Refusal}
use Rattle.vod_types.specs.declared.refusal.Refusal.TheVariants.{NoMemory}
use Rattle.vod_types.specs.Lists.{through_first}
use Rattle.vod_types.specs.Results.{◌>>=◌, Answers, each_in_turn}
use Rattle.clip_model.specs.declared.Piece.{Piece}
use Rattle.list_model.specs.declared.Variant.{Variant}
use Rattle.list_model.specs.Iframes.{iframe_stream_lines}
use Rattle.list_model.specs.Playlist.{grouped, master_playlist, ungrouped}
use Rattle.vod_source.specs.Calls.{Came, LogsReads}
use Rattle.vod_source.specs.Stored.{Read}
use Rattle.vod_source.specs.Told.{told_with}
use Rattle.vod_source.proofs.CallLemmas.{came-read}
use Rattle.origin_model.specs.Lists.{ShownSequence, iframe_variant_of, master_text, sequence_numbers, shown_sequence, shown_sequences, variant_of}
use Rattle.origin_model.specs.Plans.{pieces_or_none}
use Rattle.origin_model.specs.Reads.{turn_names, turn_pieces, turns}
use Rattle.origin_model.specs.Requests.{Setup, Asking, timeline_asked}
use Rattle.flat_lists.specs.declared.shown.Shown.{Shown}
use Rattle.flat_lists.specs.Listings.{leaf_turns, master_due}
use Rattle.flat_lists.specs.Shown.{all_shown, first_names, iframe_variant_by, rendition_by, shown_by, shown_due, shown_turns, text_by, variant_by}
use Rattle.flat_lists.specs.Steps.{names_through}

-- ---- lists

map-flat : {X Y Z : Type 0} (f : Y → Z) (g : X → List Y) (xs : List X) → map f (flat_map g xs) ≡ flat_map (λ x. map f (g x)) xs
map-flat f g [] = refl
map-flat {Z = Z} f g (x ∷ xs) = map-append f (g x) (flat_map g xs) ∙ ap (λ (zs : List Z). map f (g x) ++ zs) (map-flat f g xs)

through-agree : {X : Type 0} (p q : X → Bool) → ((x : X) → p x ≡ q x) → (xs : List X) → through_first p xs ≡ through_first q xs
through-agree {X} p q same xs = ap (λ (n : ℕ). take (n + 1) xs) (positions xs)
  where
    positions : (xs : List X) → position_or_len p xs ≡ position_or_len q xs
    positions [] = refl
    positions (x ∷ xs) = ap₂ (λ (b : Bool) (n : ℕ). cond (not b) (1 + n) 0) (same x) (positions xs)

module _ {X Y Z : Type 0} (f : X → Result Y Refusal) (g : Y → Z) where
  abbrev mapped : X → Result Z Refusal
  mapped x = f x >>= λ y. Ok (g y)

  later-mapped : (y : Y) (r : Result (List Y) Refusal) → ((r >>= λ ys. Ok (map g ys)) >>= λ zs. Ok (g y ∷ zs)) ≡ ((r >>= λ ys. Ok (y ∷ ys)) >>= λ ys. Ok (map g ys))
  later-mapped y (Ok ys) = refl
  later-mapped y (Err e) = refl

  step-mapped : (r : Result Y Refusal) (later : Result (List Z) Refusal) (due : Result (List Y) Refusal) → later ≡ (due >>= λ ys. Ok (map g ys))
      → ((r >>= λ y. Ok (g y)) >>= λ z. later >>= λ zs. Ok (z ∷ zs)) ≡ ((r >>= λ y. due >>= λ ys. Ok (y ∷ ys)) >>= λ ys. Ok (map g ys))
  step-mapped (Ok y) later due e = ap (λ (r : Result (List Z) Refusal). r >>= λ zs. Ok (g y ∷ zs)) e ∙ later-mapped y due
  step-mapped (Err d) later due e = refl

  each-mapped : (xs : List X) → each_in_turn mapped xs ≡ (each_in_turn f xs >>= λ ys. Ok (map g ys))
  each-mapped [] = refl
  each-mapped (x ∷ xs) = step-mapped (f x) (each_in_turn mapped xs) (each_in_turn f xs) (each-mapped xs)

module _ (o : Setup) (a : Asking) where
  -- ---- the text

  variants-are : (ss : List ShownSequence) → map (variant_of o a) ss ≡ map variant_by (map (shown_by a.mapping) ss)
  unfolding variant_of
  variants-are [] = refl
  variants-are (s ∷ ss) = ap (λ (vs : List Variant). variant_by (shown_by a.mapping s) ∷ vs) (variants-are ss)

  streams-are : (ss : List ShownSequence) → map (iframe_variant_of o a) ss ≡ map iframe_variant_by (map (shown_by a.mapping) ss)
  unfolding variant_of
  streams-are [] = refl
  streams-are (s ∷ ss) = ap (λ (vs : List Variant). iframe_variant_by (shown_by a.mapping s) ∷ vs) (streams-are ss)

  text-is : (ss : List ShownSequence) → master_text o a ss ≡ text_by a.mapping o.settings.iframes (map (shown_by a.mapping) ss)
  unfolding master_text text_by
  text-is ss =
      ap₂ (λ (vs ws : List Variant). master_playlist (ungrouped vs) (map (rendition_by a.mapping) (grouped vs)) ++ (if o.settings.iframes then iframe_stream_lines ws else []))
      (variants-are ss) (streams-are ss)

  abbrev pub text_of : List Shown → List ℕ
  text_of shown = text_by a.mapping o.settings.iframes shown

  pub due-is : master_due o a ≡ (all_shown o a >>= λ shown. Ok (text_of shown))
  unfolding shown_sequences
  due-is = by_list (each_in_turn (shown_sequence o a) (sequence_numbers o a)) ∙ ap (λ (r : Result (List Shown) Refusal). r >>= λ shown. Ok (text_of shown)) (sym (each-mapped (shown_sequence o a) (shown_by a.mapping) (sequence_numbers o a)))
    where
      by_list : (r : Result (List ShownSequence) Refusal) → (r >>= λ found. Ok (master_text o a found)) ≡ ((r >>= λ ss. Ok (map (shown_by a.mapping) ss)) >>= λ shown. Ok (text_of shown))
      by_list (Ok ss) = ap Ok (text-is ss)
      by_list (Err e) = refl

  -- the variants of the sequences that are shown, none where one is refused
  pub variants-shown : map (variant_of o a) (result_unwrap_or (shown_sequences o a) []) ≡ map variant_by (result_unwrap_or (all_shown o a) [])
  unfolding shown_sequences
  variants-shown =
      by_list (each_in_turn (shown_sequence o a) (sequence_numbers o a))
      ∙ ap (λ (r : Result (List Shown) Refusal). map variant_by (result_unwrap_or r [])) (sym (each-mapped (shown_sequence o a) (shown_by a.mapping) (sequence_numbers o a)))
    where
      by_list : (r : Result (List ShownSequence) Refusal) → map (variant_of o a) (result_unwrap_or r []) ≡ map variant_by (result_unwrap_or (r >>= λ ss. Ok (map (shown_by a.mapping) ss)) [])
      by_list (Ok ss) = variants-are ss
      by_list (Err e) = refl

  -- ---- the reads

  same_fault : (sequence : ℕ) → is_err (shown_sequence o a sequence) ≡ is_err (shown_due o a sequence)
  same_fault sequence = by_case (shown_sequence o a sequence)
    where
      by_case : (r : Result ShownSequence Refusal) → is_err r ≡ is_err (r >>= λ s. Ok (shown_by a.mapping s))
      by_case (Ok s) = refl
      by_case (Err e) = refl

  abbrev first_pieces : ℕ → List Piece
  first_pieces sequence = pieces_or_none (timeline_asked o a sequence >>= λ t. Ok (take 1 t.pieces))

  pub names-are : turn_names o a Master ≡ names_through (shown_due o a) (first_names o a) (sequence_numbers o a)
  unfolding turn_pieces
  names-are =
      map-flat (λ (piece : Piece). piece.name) first_pieces (through_first (λ sequence. is_err (shown_sequence o a sequence)) (sequence_numbers o a))
      ∙ ap (flat_map (first_names o a)) (through-agree (λ sequence. is_err (shown_sequence o a sequence)) (λ sequence. is_err (shown_due o a sequence)) same_fault (sequence_numbers o a))

  reads-are : leaf_turns o a Master ≡ shown_turns o a
  reads-are = ap (λ (names : List (List ℕ)). (turns o.files [] names).reads) names-are

  -- ---- what it came to

  module _ {V X : Type 0} (shown_view : V → List Shown) (view : X → List ℕ) (log log_now : Option (List Read)) where
    pub master_refused : (e : Refusal) → Came shown_view (Err e) (all_shown o a) (shown_turns o a) log log_now → Came view (Err e) (master_due o a) (leaf_turns o a Master) log log_now
    master_refused e came = record {
      answered = λ known_memory known_store. due-is ∙ ap (λ (r : Result (List Shown) Refusal). r >>= λ shown. Ok (text_of shown)) (came.answered known_memory known_store);
      logged = subst (λ (reads : List Read). LogsReads {X = X} (Err e) reads log log_now) (sym reads-are) came.logged;
    }

    pub master_written : (v : V) (r : Result X Refusal) (iframes : Bool) → Came shown_view (Ok v) (all_shown o a) (shown_turns o a) log log_now → iframes ≡ o.settings.iframes
        → IfOk r (λ x. view x ≡ text_by a.mapping iframes (shown_view v)) → IfErr r (λ refusal. refusal ≡ NoMemory) → Came view r (master_due o a) (leaf_turns o a Master) log log_now
    master_written v r iframes came same text only =
        came-read view (master_due o a) (leaf_turns o a Master) log log_now r (answers r text only) (came.logged ∙ ap (told_with log) (sym reads-are))
      where
        due : master_due o a ≡ Ok (text_of (shown_view v))
        due = due-is ∙ ap (λ (r : Result (List Shown) Refusal). r >>= λ shown. Ok (text_of shown)) came.answered

        answers : (r : Result X Refusal) → IfOk r (λ x. view x ≡ text_by a.mapping iframes (shown_view v)) → IfErr r (λ refusal. refusal ≡ NoMemory) → Answers view r (master_due o a)
        answers (Ok x) text only = due ∙ ap Ok (sym (text ∙ ap (λ (b : Bool). text_by a.mapping b (shown_view v)) same))
        answers (Err e) text only = λ other. absurd (other only)
