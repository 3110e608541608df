-- What is found of the sequences of a request is what media presentation descriptions are made of, and the names that are looked at are those of its turns.
use Rattle.std.proofs.Common.{◌≡◌, ℕ, Bool, true, false, List, [], ◌∷◌, ◌++◌, map, Some, None, Result, Ok, Err, refl, sym, ap, ap₂, ◌∙◌}
use Rattle.std.specs.Prelude.{flat_map, is_err}
use Rattle.std.specs.Result.{result_unwrap_or}
use Rattle.std.proofs.lemmas.List.{map-append}
use Rattle.vod_types.specs.declared.paths.Leaf.TheVariants.{Mpd}
use Rattle.vod_types.specs.declared.refusal.Refusal.{Refusal}
use Rattle.vod_types.specs.declared.tracks.Asked.{Asked}
use Rattle.vod_types.specs.Lists.{through_first}
use Rattle.vod_types.specs.Results.{◌>>=◌, ◌>>◌, each_in_turn}
use Rattle.mp4_model.specs.Movie.{Movie}
use Rattle.clip_model.specs.declared.Part.{Part}
use Rattle.clip_model.specs.declared.Piece.{Piece}
use Rattle.clip_model.specs.Timeline.{Timeline}
use Rattle.origin_model.specs.Lists.{CheckedPart, CheckedSequence, checked_first, checked_part_of, checked_sequence, first_asked, sequence_numbers}
use Rattle.origin_model.specs.Loaded.{CheckedPiece, checked, loaded}
use Rattle.origin_model.specs.Plans.{pieces_or_none}
use Rattle.origin_model.specs.Reads.{looked_at_in_part, looked_at_in_sequence, turn_names, turn_pieces}
use Rattle.origin_model.specs.Requests.{Setup, Asking, honours_edits, timeline_asked}
use Rattle.origin_model.specs.Sources.{part_pieces}
use Rattle.flat_samples.specs.Checks.{checked_in}
use Rattle.flat_lists.specs.PartTracks.{asked_in, first_in}
use Rattle.flat_lists.specs.LookedParts.{PartFound, first_found, name_alone, part_found, part_names}
use Rattle.flat_lists.specs.LookedSequences.{FoundPart, SequenceFound, found_in, names_in, numbers, sequence_found, sequence_names, sequences_found}
use Rattle.flat_lists.specs.Described.{part_view, sequence_view}
use Rattle.flat_lists.specs.Tours.{names_of_steps}
use Rattle.flat_lists.proofs.LookedLemmas.{checked_loaded}
use Rattle.flat_lists.proofs.Tours.{through_more, through_stop}

-- ---- lists

through_same : {X : Type 0} (a b : X → Bool) → ((x : X) → a x ≡ b x) → (xs : List X) → through_first a xs ≡ through_first b xs
through_same a b same [] = refl
through_same {X = X} a b same (x ∷ xs) = by (a x) refl (through_same a b same xs)
  where
    by : (t : Bool) → a x ≡ t → through_first a xs ≡ through_first b xs → through_first a (x ∷ xs) ≡ through_first b (x ∷ xs)
    by true e later = through_stop a x xs e ∙ sym (through_stop b x xs (sym (same x) ∙ e))
    by false e later = through_more a x xs e ∙ ap (λ (ys : List X). x ∷ ys) later ∙ sym (through_more b x xs (sym (same x) ∙ e))

map-flat_map : {X Y Z : Type 0} (g : Y → Z) (f : X → List Y) (h : X → List Z) → ((x : X) → map g (f x) ≡ h x) → (xs : List X) → map g (flat_map f xs) ≡ flat_map h xs
map-flat_map g f h same [] = refl
map-flat_map {Z = Z} g f h same (x ∷ xs) = map-append g (f x) (flat_map f xs) ∙ ap₂ (λ (ys zs : List Z). ys ++ zs) (same x) (map-flat_map g f h same xs)

names_alone : (ps : List Piece) → map (λ (p : Piece). p.name) ps ≡ flat_map name_alone ps
names_alone [] = refl
names_alone (p ∷ ps) = ap (λ (ns : List (List ℕ)). p.name ∷ ns) (names_alone ps)

each_same : {A B : Type 0} (f h : A → Result B Refusal) → ((x : A) → f x ≡ h x) → (xs : List A) → each_in_turn f xs ≡ each_in_turn h xs
each_same f h same [] = refl
each_same {B = B} f h same (x ∷ xs) =
    ap₂ (λ (r : Result B Refusal) (rs : Result (List B) Refusal). r >>= λ y. rs >>= λ ys. Ok (y ∷ ys)) (same x) (each_same f h same xs)

each_mapped : {A B C : Type 0} (f : A → Result B Refusal) (g : B → C) (xs : List A) → each_in_turn (λ x. f x >>= λ y. Ok (g y)) xs ≡ (each_in_turn f xs >>= λ ys. Ok (map g ys))
each_mapped f g [] = refl
each_mapped {B = B} {C = C} f g (x ∷ xs) =
    ap (λ (rs : Result (List C) Refusal). (f x >>= λ y. Ok (g y)) >>= λ z. rs >>= λ zs. Ok (z ∷ zs)) (each_mapped f g xs) ∙ by (f x) (each_in_turn f xs)
  where
    by : (r : Result B Refusal) (rs : Result (List B) Refusal)
        → ((r >>= λ y. Ok (g y)) >>= λ z. (rs >>= λ ys. Ok (map g ys)) >>= λ zs. Ok (z ∷ zs)) ≡ ((r >>= λ y. rs >>= λ ys. Ok (y ∷ ys)) >>= λ ys. Ok (map g ys))
    by (Err e) rs = refl
    by (Ok y) (Err e) = refl
    by (Ok y) (Ok ys) = refl

err_mapped : {A B : Type 0} (r : Result A Refusal) (g : A → B) → is_err {T = B} (r >>= λ y. Ok (g y)) ≡ is_err r
err_mapped (Ok x) g = refl
err_mapped (Err e) g = refl

-- ---- parts

module _ (o : Setup) (a : Asking) where
  abbrev edits : Bool
  edits = honours_edits o

  first_asked-is : (piece : Piece) → first_asked o a piece ≡ (loaded o.files piece.name >>= asked_in piece)
  unfolding first_asked
  first_asked-is piece = refl

  checked_first-is : (piece : Piece) → checked_first o a piece ≡ (first_asked o a piece >>= λ asked. checked o.files edits asked piece >>= λ c. let p : Asked × CheckedPiece = (asked, c) in Ok p)
  unfolding checked_first
  checked_first-is piece = refl

  pub first_is : (piece : Piece) → checked_first o a piece ≡ first_found o.files edits piece
  first_is piece =
      checked_first-is piece ∙ ap (λ (r : Result Asked Refusal). r >>= λ asked. checked o.files edits asked piece >>= λ c. let p : Asked × CheckedPiece = (asked, c) in Ok p) (first_asked-is piece)
      ∙ by_movie (loaded o.files piece.name) refl
    where
      by_asked : (m : Movie) (r : Result Asked Refusal) → loaded o.files piece.name ≡ Ok m
          → (r >>= λ asked. checked o.files edits asked piece >>= λ c. let p : Asked × CheckedPiece = (asked, c) in Ok p) ≡ (r >>= λ asked. checked_in edits asked piece m >>= λ c. let p : Asked × CheckedPiece = (asked, c) in Ok p)
      by_asked m (Ok asked) load = ap (λ (r : Result CheckedPiece Refusal). r >>= λ c. let p : Asked × CheckedPiece = (asked, c) in Ok p) (checked_loaded o.files edits asked piece m load)
      by_asked m (Err e) load = refl

      by_movie : (r : Result Movie Refusal) → loaded o.files piece.name ≡ r
          → ((loaded o.files piece.name >>= asked_in piece) >>= λ asked. checked o.files edits asked piece >>= λ c. let p : Asked × CheckedPiece = (asked, c) in Ok p) ≡ (loaded o.files piece.name >>= first_in edits piece)
      by_movie (Ok m) load =
          ap (λ (r : Result Movie Refusal). (r >>= asked_in piece) >>= λ asked. checked o.files edits asked piece >>= λ c. let p : Asked × CheckedPiece = (asked, c) in Ok p) load
          ∙ by_asked m (asked_in piece m) load ∙ sym (ap (λ (r : Result Movie Refusal). r >>= first_in edits piece) load)
      by_movie (Err e) load =
          ap (λ (r : Result Movie Refusal). (r >>= asked_in piece) >>= λ asked. checked o.files edits asked piece >>= λ c. let p : Asked × CheckedPiece = (asked, c) in Ok p) load
          ∙ sym (ap (λ (r : Result Movie Refusal). r >>= first_in edits piece) load)

  abbrev with_first : Part → Asked × CheckedPiece → CheckedPart
  with_first part f = record { part = part; first = Some f }

  part_some : (part : Part) (first : Piece) (later : List Piece)
      → checked_part_of o a part (first ∷ later) ≡ (checked_first o a first >>= λ f. each_in_turn (checked o.files edits f.0) later >>= λ cs. Ok (with_first part f))
  unfolding checked_part_of
  part_some part first later = by (checked_first o a first)
    where
      by_rest : (f : Asked × CheckedPiece) (r : Result (List CheckedPiece) Refusal) → (r >> Ok (with_first part f)) ≡ (r >>= λ cs. Ok (with_first part f))
      by_rest f (Ok cs) = refl
      by_rest f (Err e) = refl

      by : (r : Result (Asked × CheckedPiece) Refusal) → (r >>= λ f. each_in_turn (checked o.files edits f.0) later >> Ok (with_first part f)) ≡ (r >>= λ f. each_in_turn (checked o.files edits f.0) later >>= λ cs. Ok (with_first part f))
      by (Ok f) = by_rest f (each_in_turn (checked o.files edits f.0) later)
      by (Err e) = refl

  part_none : (part : Part) → checked_part_of o a part [] ≡ Ok (record { part = part; first = None })
  unfolding checked_part_of
  part_none part = refl

  pub part_is : (part : Part) (pieces : List Piece) → checked_part_of o a part pieces ≡ ((part_found o.files edits pieces >>= λ f. Ok (part, f)) >>= λ f. Ok (part_view f))
  part_is part [] = part_none part
  part_is part (first ∷ later) =
      part_some part first later
      ∙ ap (λ (r : Result (Asked × CheckedPiece) Refusal). r >>= λ f. each_in_turn (checked o.files edits f.0) later >>= λ cs. let p : CheckedPart = record { part = part; first = Some f } in Ok p) (first_is first)
      ∙ by (first_found o.files edits first)
    where
      by_rest : (f : Asked × CheckedPiece) (r : Result (List CheckedPiece) Refusal)
          → (r >>= λ cs. let p : CheckedPart = record { part = part; first = Some f } in Ok p)
          ≡ (((r >>= λ cs. let p : PartFound = record { first = Some f; pieces = f.1 ∷ cs } in Ok p) >>= λ p. Ok (part, p)) >>= λ p. Ok (part_view p))
      by_rest f (Ok cs) = refl
      by_rest f (Err e) = refl

      by : (r : Result (Asked × CheckedPiece) Refusal)
          → (r >>= λ f. each_in_turn (checked o.files edits f.0) later >>= λ cs. let p : CheckedPart = record { part = part; first = Some f } in Ok p)
          ≡ (((r >>= λ f. each_in_turn (checked o.files edits f.0) later >>= λ cs. let p : PartFound = record { first = Some f; pieces = f.1 ∷ cs } in Ok p) >>= λ p. Ok (part, p)) >>= λ p. Ok (part_view p))
      by (Ok f) = by_rest f (each_in_turn (checked o.files edits f.0) later)
      by (Err e) = refl

  pub names_of_part : (pieces : List Piece) → map (λ (p : Piece). p.name) (looked_at_in_part o a pieces) ≡ part_names o.files edits pieces
  names_of_part [] = refl
  names_of_part (first ∷ later) =
      names_alone (looked_at_in_part o a (first ∷ later))
      ∙ ap (λ (r : Result Asked Refusal). flat_map name_alone (through_first (λ piece. is_err (r >>= λ asked. checked o.files edits asked piece)) (first ∷ later))) (first_asked-is first)

  -- ---- sequences

  pub names_of_timeline : (t : Timeline) → map (λ (p : Piece). p.name) (looked_at_in_sequence o a t) ≡ names_of_steps (found_in o.files edits t) (names_in o.files edits t) t.parts
  names_of_timeline t =
      map-flat_map (λ (p : Piece). p.name) (λ part. looked_at_in_part o a (part_pieces t part)) (names_in o.files edits t) (λ part. names_of_part (part_pieces t part))
      (through_first (λ part. is_err (checked_part_of o a part (part_pieces t part))) t.parts)
      ∙ ap (flat_map (names_in o.files edits t))
      (through_same (λ part. is_err (checked_part_of o a part (part_pieces t part))) (λ part. is_err (found_in o.files edits t part))
      (λ part. ap (λ (r : Result CheckedPart Refusal). is_err r) (part_is part (part_pieces t part)) ∙ err_mapped (found_in o.files edits t part) part_view) t.parts)

  sequence-is : (sequence : ℕ) → checked_sequence o a sequence
      ≡ (timeline_asked o a sequence >>= λ t. each_in_turn (λ part. checked_part_of o a part (part_pieces t part)) t.parts >>= λ parts. let s : CheckedSequence = record { number = sequence; timeline = t; parts = parts } in Ok s)
  unfolding checked_sequence
  sequence-is sequence = refl

  pub sequence_is : (sequence : ℕ) → checked_sequence o a sequence ≡ (sequence_found o a sequence >>= λ f. Ok (sequence_view f))
  sequence_is sequence = sequence-is sequence ∙ by (timeline_asked o a sequence)
    where
      by_parts : (t : Timeline) (r : Result (List FoundPart) Refusal)
          → ((r >>= λ fs. Ok (map part_view fs)) >>= λ parts. let s : CheckedSequence = record { number = sequence; timeline = t; parts = parts } in Ok s)
          ≡ ((r >>= λ fs. let f : SequenceFound = record { number = sequence; timeline = t; parts = fs } in Ok f) >>= λ f. Ok (sequence_view f))
      by_parts t (Ok fs) = refl
      by_parts t (Err e) = refl

      by : (r : Result Timeline Refusal)
          → (r >>= λ t. each_in_turn (λ part. checked_part_of o a part (part_pieces t part)) t.parts >>= λ parts. let s : CheckedSequence = record { number = sequence; timeline = t; parts = parts } in Ok s)
          ≡ ((r >>= λ t. each_in_turn (found_in o.files edits t) t.parts >>= λ fs. let f : SequenceFound = record { number = sequence; timeline = t; parts = fs } in Ok f) >>= λ f. Ok (sequence_view f))
      by (Ok t) =
          ap (λ (r : Result (List CheckedPart) Refusal). r >>= λ parts. let s : CheckedSequence = record { number = sequence; timeline = t; parts = parts } in Ok s)
          (each_same (λ part. checked_part_of o a part (part_pieces t part)) (λ part. found_in o.files edits t part >>= λ f. Ok (part_view f)) (λ part. part_is part (part_pieces t part)) t.parts
          ∙ each_mapped (found_in o.files edits t) part_view t.parts)
          ∙ by_parts t (each_in_turn (found_in o.files edits t) t.parts)
      by (Err e) = refl

  pub sequences_are : each_in_turn (checked_sequence o a) (sequence_numbers o a) ≡ (sequences_found o a >>= λ fs. Ok (map sequence_view fs))
  sequences_are =
      each_same (checked_sequence o a) (λ sequence. sequence_found o a sequence >>= λ f. Ok (sequence_view f)) sequence_is (sequence_numbers o a) ∙ each_mapped (sequence_found o a) sequence_view (sequence_numbers o a)

  names_of_sequence : (sequence : ℕ) → map (λ (p : Piece). p.name) (pieces_or_none (timeline_asked o a sequence >>= λ t. Ok (looked_at_in_sequence o a t))) ≡ sequence_names o a sequence
  names_of_sequence sequence = by (timeline_asked o a sequence)
    where
      by : (r : Result Timeline Refusal) → map (λ (p : Piece). p.name) (pieces_or_none (r >>= λ t. Ok (looked_at_in_sequence o a t)))
          ≡ result_unwrap_or (r >>= λ t. Ok (names_of_steps (found_in o.files edits t) (names_in o.files edits t) t.parts)) []
      by (Ok t) = names_of_timeline t
      by (Err e) = refl

  pieces-are : turn_pieces o a Mpd ≡ flat_map (λ sequence. pieces_or_none (timeline_asked o a sequence >>= λ t. Ok (looked_at_in_sequence o a t))) (through_first (λ sequence. is_err (checked_sequence o a sequence)) (sequence_numbers o a))
  unfolding turn_pieces
  pieces-are = refl

  pub names_are : turn_names o a Mpd ≡ names_of_steps (sequence_found o a) (sequence_names o a) (numbers o a)
  names_are =
      ap (map (λ (p : Piece). p.name)) pieces-are
      ∙ map-flat_map (λ (p : Piece). p.name) (λ sequence. pieces_or_none (timeline_asked o a sequence >>= λ t. Ok (looked_at_in_sequence o a t))) (sequence_names o a) names_of_sequence
      (through_first (λ sequence. is_err (checked_sequence o a sequence)) (sequence_numbers o a))
      ∙ ap (flat_map (sequence_names o a))
      (through_same (λ sequence. is_err (checked_sequence o a sequence)) (λ sequence. is_err (sequence_found o a sequence))
      (λ sequence. ap (λ (r : Result CheckedSequence Refusal). is_err r) (sequence_is sequence) ∙ err_mapped (sequence_found o a sequence) sequence_view) (sequence_numbers o a))
