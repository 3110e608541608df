-- The pieces of a part, looked at one after another; this project's own.
use Rattle.std.specs.Prelude.{◌≡◌, ℕ, ◌+◌, Bool, List, [], ◌∷◌, map, Option, Some, None, Result, Ok}
use Rattle.vod_types.specs.declared.refusal.Refusal.{Refusal}
use Rattle.vod_types.specs.declared.tracks.Asked.{Asked}
use Rattle.vod_types.specs.Results.{◌>>=◌, each_in_turn}
use Rattle.mp4_model.specs.Movie.{Movie}
use Rattle.clip_model.specs.declared.Piece.{Piece}
use Rattle.clip_model.specs.Mapping.{Mapping}
use Rattle.vod_source.specs.Stored.{Files, Read}
use Rattle.origin_model.specs.Loaded.{CheckedPiece, loaded, checked}
use Rattle.flat_samples.specs.Movies.{HeldMovie}
use Rattle.flat_lists.specs.declared.part_tracks.PartTracks.{PartTracks}
use Rattle.flat_lists.specs.PartTracks.{PartSeen, asked_in, first_in, part_due, part_seen, part_with}
use Rattle.flat_lists.specs.Tours.{StandsFor, IsTour, names_of_steps}

-- ---- what is kept of pieces

-- with those of pieces behind, the first of which has this place
abbrev pub pieces_added : ℕ → List CheckedPiece → PartSeen → PartSeen
pieces_added place [] seen = seen
pieces_added place (c ∷ cs) seen = pieces_added (place + 1) cs (part_with place c seen)

-- whatever the store tells, it is that of this piece, of these pieces, of a first piece, and of all pieces of a part
pub record IsWithPiece (place : ℕ) (piece : Piece) (old now : PartSeen) : Type 0 where
  pub checked : CheckedPiece
  pub of : checked.piece ≡ piece
  pub seen : now ≡ part_with place checked old

pub record AreWithPieces (place : ℕ) (pieces : List Piece) (old now : PartSeen) : Type 0 where
  pub checked : List CheckedPiece
  pub of : map (λ c. c.piece) checked ≡ pieces
  pub seen : now ≡ pieces_added place checked old

pub record IsOfFirst (m : Mapping) (sequence : ℕ) (piece : Piece) (seen_first : PartSeen) : Type 0 where
  pub checked : CheckedPiece
  pub of : checked.piece ≡ piece
  pub seen : seen_first ≡ part_due m sequence (checked ∷ [])

pub record IsPartOf (m : Mapping) (sequence : ℕ) (pieces : List Piece) (seen_part : PartSeen) : Type 0 where
  pub checked : List CheckedPiece
  pub of : map (λ c. c.piece) checked ≡ pieces
  pub seen : seen_part ≡ part_due m sequence checked

-- ---- what is found

-- a first piece, with the tracks that it exposes
abbrev pub IsFirst : Mapping → ℕ → Asked × CheckedPiece → Asked × PartTracks → Type 0
IsFirst m sequence found r = (r.0 ≡ found.0) × (part_seen r.1 ≡ part_due m sequence (found.1 ∷ []))

abbrev pub FirstStands : Bool → Mapping → ℕ → Piece → Movie → Result (Asked × PartTracks) Refusal → Type 0
FirstStands edits m sequence piece movie result = StandsFor (IsFirst m sequence) result (first_in edits piece movie)

abbrev pub first_found : Files → Bool → Piece → Result (Asked × CheckedPiece) Refusal
first_found files edits piece = loaded files piece.name >>= first_in edits piece

-- the pieces of a part, with the tracks that the first one exposes
pub record PartFound : Type 0 where
  pub first : Option (Asked × CheckedPiece)
  pub pieces : List CheckedPiece

abbrev pub part_found : Files → Bool → List Piece → Result PartFound Refusal
part_found files edits [] = Ok (record { first = None; pieces = [] })
part_found files edits (first ∷ later) =
    first_found files edits first >>= λ f. each_in_turn (checked files edits f.0) later >>= λ cs. Ok (record { first = Some f; pieces = f.1 ∷ cs })

abbrev pub IsFoundPart : Mapping → ℕ → PartFound → PartTracks → Type 0
IsFoundPart m sequence found p = part_seen p ≡ part_due m sequence found.pieces

-- ---- names

abbrev pub name_alone : Piece → List (List ℕ)
name_alone piece = piece.name ∷ []

-- the check of a piece with the tracks that the first one exposes
abbrev pub checked_by : Files → Bool → Piece → Piece → Result CheckedPiece Refusal
checked_by files edits first piece = (loaded files first.name >>= asked_in first) >>= λ asked. checked files edits asked piece

abbrev pub part_names : Files → Bool → List Piece → List (List ℕ)
part_names files edits [] = []
part_names files edits (first ∷ later) = names_of_steps (checked_by files edits first) name_alone (first ∷ later)

-- ---- calls

abbrev pub IsPieceTour : Files → Bool → Asked → ℕ → Piece → PartSeen → PartSeen → Result (Unit {0}) Refusal → List HeldMovie → List HeldMovie → Option (List Read) → Option (List Read) → Type 0
IsPieceTour files edits asked place piece old now result held held_now log log_now =
    IsTour files (λ c x. now ≡ part_with place c old) (checked files edits asked piece) (name_alone piece) result held held_now log log_now

abbrev pub IsLaterTour : Files → Bool → Asked → List Piece → PartSeen → Result PartTracks Refusal → List HeldMovie → List HeldMovie → Option (List Read) → Option (List Read) → Type 0
IsLaterTour files edits asked pieces first result held held_now log log_now =
    IsTour files (λ cs p. part_seen p ≡ pieces_added 1 cs first) (each_in_turn (checked files edits asked) pieces) (names_of_steps (checked files edits asked) name_alone pieces) result held held_now log log_now

abbrev pub IsFirstTour : Files → Bool → Mapping → ℕ → Piece → Result (Asked × PartTracks) Refusal → List HeldMovie → List HeldMovie → Option (List Read) → Option (List Read) → Type 0
IsFirstTour files edits m sequence piece result held held_now log log_now =
    IsTour files (IsFirst m sequence) (first_found files edits piece) (name_alone piece) result held held_now log log_now

abbrev pub IsPartTour : Files → Bool → Mapping → ℕ → List Piece → Result PartTracks Refusal → List HeldMovie → List HeldMovie → Option (List Read) → Option (List Read) → Type 0
IsPartTour files edits m sequence pieces result held held_now log log_now =
    IsTour files (IsFoundPart m sequence) (part_found files edits pieces) (part_names files edits pieces) result held held_now log log_now
