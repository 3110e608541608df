-- The pieces that a segment needs, looked at one after another; this project's own.
use Rattle.std.specs.Prelude.{◌≡◌, ◌≢◌, ℕ, ◌+◌, Bool, List, [], ◌∷◌, ◌++◌, length, map, take, is_err, is_some, Option, All, Result, Ok, Err, if◌then◌else◌, ⊤}
use Rattle.std.specs.Option.{option_map_or}
use Rattle.vod_types.specs.declared.refusal.Refusal.{Refusal}
use Rattle.vod_types.specs.declared.refusal.Refusal.TheVariants.{NoMemory, StoreFailed}
use Rattle.vod_types.specs.declared.tracks.Asked.{Asked}
use Rattle.vod_types.specs.declared.tracks.Kind.{Kind}
use Rattle.vod_types.specs.Lists.{through_first}
use Rattle.vod_types.specs.Results.{◌>>=◌, each_in_turn}
use Rattle.clip_model.specs.declared.Piece.{Piece}
use Rattle.segment_model.specs.Rows.{TimedRow}
use Rattle.vod_source.specs.Stored.{Files, Read}
use Rattle.origin_model.specs.Loaded.{CheckedPiece, checked}
use Rattle.origin_model.specs.Writable.{IsSoundPiece}
use Rattle.vod_meta.specs.Held.{HeldMovie, names_held}
use Rattle.vod_plan.specs.declared.needed.NeededPieces.{NeededPieces}
use Rattle.vod_plan.specs.declared.spans.PlanPiece.{PlanPiece}
use Rattle.vod_plan.specs.declared.tracks.CheckedTracks.{CheckedTracks}
use Rattle.vod_plan.specs.Ranges.{PlannedPiece, range_of, range_rows}
use Rattle.vod_plan.specs.Selected.{IsPieceOf, IsSelected}
use Rattle.vod_plan.specs.Spans.{piece_view}
use Rattle.vod_plan.specs.Turned.{AreTurns}

-- a piece that was found: its file, its tracks, and its selected rows
pub record IsFoundPiece (c : CheckedPiece) (p : PlanPiece) : Type 0 where
  pub of : IsPieceOf c p
  pub selected : IsSelected c (piece_view p)

abbrev pub AreFoundOf : List CheckedPiece → List PlanPiece → Type 0
AreFoundOf [] [] = ⊤
AreFoundOf [] (p ∷ ps) = ⊥
AreFoundOf (c ∷ cs) [] = ⊥
AreFoundOf (c ∷ cs) (p ∷ ps) = IsFoundPiece c p × AreFoundOf cs ps

-- Whatever the store tells, they are the first of these pieces, each with its asked tracks.
pub record AreFoundPieces (asked : Asked) (pieces : List Piece) (found : List PlanPiece) : Type 0 where
  pub checked : List CheckedPiece
  pub of : map (λ c. c.piece) checked ≡ take (length found) pieces
  pub sound : All (IsSoundPiece asked) checked
  pub are : AreFoundOf checked found

-- ---- one piece

-- how many tracks of a piece are asked
abbrev pub tracks_found : CheckedTracks → ℕ
tracks_found c = (if is_some c.video then 1 else 0) + (if is_some c.audio then 1 else 0)

-- the rows of a kind of a piece of this place
abbrev pub piece_rows : Kind → ℕ → PlannedPiece → List TimedRow
piece_rows kind file p = option_map_or (range_rows kind file p.base) (range_of kind p) []

-- Whatever the store tells, it is this piece with its asked tracks.
pub record IsFoundFor (asked : Asked) (piece : Piece) (p : PlanPiece) : Type 0 where
  pub checked_piece : CheckedPiece
  pub of : checked_piece.piece ≡ piece
  pub sound : IsSoundPiece asked checked_piece
  pub found : IsFoundPiece checked_piece p

-- a piece with its tracks, or its first fault
abbrev pub FoundOne : Files → Bool → Asked → Piece → Result PlanPiece Refusal → Type 0
FoundOne files edits asked piece (Ok p) = (c : CheckedPiece) × (checked files edits asked piece ≡ Ok c) × IsFoundPiece c p
FoundOne files edits asked piece (Err e) = e ≢ NoMemory → e ≢ StoreFailed → checked files edits asked piece ≡ Err e

-- a look at a piece over the movies that are held
pub record IsLook (files : Files) (edits : Bool) (asked : Asked) (piece : Piece) (result : Result PlanPiece Refusal) (held held_now : List HeldMovie) (log log_now : Option (List Read)) : Type 0 where
  pub answered : FoundOne files edits asked piece result
  pub turned : AreTurns files (piece.name ∷ []) result (names_held held) (names_held held_now) log log_now

-- ---- what a told store gives

-- those that are looked at: through the first that can't be used
abbrev pub looked_pieces : Files → Bool → Asked → List Piece → List Piece
looked_pieces files edits asked pieces = through_first (λ piece. is_err (checked files edits asked piece)) pieces

abbrev pub looked_count : Files → Bool → Asked → List Piece → ℕ
looked_count files edits asked pieces = length (looked_pieces files edits asked pieces)

abbrev pub looked_names : Files → Bool → Asked → List Piece → List (List ℕ)
looked_names files edits asked pieces = map (λ piece. piece.name) (looked_pieces files edits asked pieces)

-- the pieces with their tracks, or the first fault
abbrev pub FoundAt : Files → Bool → Asked → List Piece → Result NeededPieces Refusal → Type 0
FoundAt files edits asked pieces (Ok n) = (all : List CheckedPiece) × (each_in_turn (checked files edits asked) pieces ≡ Ok all) × AreFoundOf all n.pieces.items
FoundAt files edits asked pieces (Err e) = e ≢ NoMemory → e ≢ StoreFailed → each_in_turn (checked files edits asked) pieces ≡ Err e

-- Looks at these pieces over the movies that are held: what they found, the reads for it, and the cache that they leave.
pub record AreLooks (files : Files) (edits : Bool) (asked : Asked) (pieces : List Piece) (result : Result NeededPieces Refusal) (held held_now : List HeldMovie) (log log_now : Option (List Read)) : Type 0 where
  pub answered : FoundAt files edits asked pieces result
  pub turned : AreTurns files (looked_names files edits asked pieces) result (names_held held) (names_held held_now) log log_now

-- What is left of the looks: these pieces, when others were found.
pub record IsLookWalk (files : Files) (edits : Bool) (asked : Asked) (pieces left : List Piece) (found : List PlanPiece) (held held_now : List HeldMovie) (log log_now : Option (List Read)) : Type 0 where
  pub done : List CheckedPiece
  pub rest : each_in_turn (checked files edits asked) pieces ≡ (each_in_turn (checked files edits asked) left >>= λ later. Ok (done ++ later))
  pub are : AreFoundOf done found
  pub before : List (List ℕ)
  pub many : length before ≡ length found
  pub names : looked_names files edits asked pieces ≡ before ++ looked_names files edits asked left
  pub turned : AreTurns {X = Unit {0}} files before (Ok tt) (names_held held) (names_held held_now) log log_now
