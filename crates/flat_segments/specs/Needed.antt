-- The pieces that a segment needs, looked at one after another; this project's own.
use Rattle.std.specs.Prelude.{◌≡◌, ◌≢◌, ℕ, Bool, false, List, [], ◌∷◌, ◌++◌, length, map, take, drop, Option, is_some, is_err, All, Result, Ok, Err}
use Rattle.std.specs.Option.{option_map_or}
use Rattle.vod_types.specs.declared.refusal.Refusal.{Refusal}
use Rattle.vod_types.specs.declared.refusal.Refusal.TheVariants.{NoMemory, StoreFailed}
use Rattle.vod_types.specs.declared.tracks.Asked.{Asked}
use Rattle.vod_types.specs.Lists.{through_first}
use Rattle.vod_types.specs.Results.{◌>>=◌, each_in_turn}
use Rattle.clip_model.specs.declared.Part.{Part}
use Rattle.clip_model.specs.declared.Piece.{Piece}
use Rattle.clip_model.specs.IsTimeline.{IsTimeline}
use Rattle.clip_model.specs.Timeline.{Timeline}
use Rattle.segment_model.specs.Needed.{begins}
use Rattle.segment_model.specs.Timeline.{timeline}
use Rattle.vod_source.specs.Stored.{Files, Read}
use Rattle.vod_source.specs.Told.{told_with}
use Rattle.origin_model.specs.Loaded.{CheckedPiece, checked}
use Rattle.origin_model.specs.Reads.{turn, turns}
use Rattle.origin_model.specs.Sources.{source_piece, source_of, part_pieces}
use Rattle.origin_model.specs.Writable.{IsSoundPiece}
use Rattle.flat_segments.specs.declared.cells.PartCells.{PartCells}
use Rattle.flat_segments.specs.declared.needed.Needed.{Needed}
use Rattle.flat_segments.specs.declared.needed.NeededFile.{NeededFile}
use Rattle.vod_source.specs.Calls.{LogsReads}
use Rattle.flat_samples.specs.Movies.{HeldMovie, AreTrue, names_held}
use Rattle.flat_samples.specs.Rows.{part_rows, rows_with, ArePlacedRows}
use Rattle.flat_segments.specs.Cells.{part_grid_of}
use Rattle.flat_segments.specs.Segments.{facts_of, file_of, SizesAreTrue}

-- the files and the rows of one more piece
pub record IsAdded (c : CheckedPiece) (n now : Needed) : Type 0 where
  pub file : NeededFile
  pub of : facts_of file ≡ file_of c
  pub typed : is_some file.video_type ≡ is_some c.video
  pub files : now.files.items ≡ n.files.items ++ file ∷ []
  pub rows : part_rows now.rows ≡ rows_with (part_rows n.rows) (length n.files.items) (source_piece c)

-- those of all of these pieces
pub record AreNeeded (cs : List CheckedPiece) (n : Needed) : Type 0 where
  pub files : map facts_of n.files.items ≡ map file_of cs
  pub rows : part_rows n.rows ≡ timeline (map source_piece cs)

-- the files of video have the types of its sample entries
abbrev pub AreTyped : Asked → List NeededFile → Type 0
AreTyped asked files = All (λ f. is_some f.video_type ≡ is_some asked.video) files

-- whatever the store tells, they are those of so many of these pieces, each with its asked tracks
pub record AreOfFirst (asked : Asked) (count : ℕ) (pieces : List Piece) (n : Needed) : Type 0 where
  pub checked : List CheckedPiece
  pub sound : All (IsSoundPiece asked) checked
  pub of : map (λ c. c.piece) checked ≡ take count pieces
  pub needed : AreNeeded checked n
  pub typed : AreTyped asked n.files.items
  pub placed : ArePlacedRows (part_rows n.rows)

-- of the first of them
abbrev pub AreOfPieces : Asked → List Piece → Needed → Type 0
AreOfPieces asked pieces n = (count : ℕ) × AreOfFirst asked count pieces n

-- They are those of some of the pieces of a part of a timeline, from one on.
pub record AreOfPart (asked : Asked) (n : Needed) : Type 0 where
  pub timeline : Timeline
  pub part : Part
  pub skipped : ℕ
  pub kept : IsTimeline timeline.pieces timeline.parts
  pub pieces : AreOfPieces asked (drop skipped (part_pieces timeline part)) n

-- ---- one piece

-- an answer without a value
abbrev pub as_done : {X : Type 0} → Result X Refusal → Result (Unit {0}) Refusal
as_done r = r >>= λ x. Ok tt

-- what was added
pub record IsTaken (files : Files) (edits : Bool) (asked : Asked) (piece : Piece) (n now : Needed) : Type 0 where
  pub piece_checked : CheckedPiece
  pub checked : checked files edits asked piece ≡ Ok piece_checked
  pub added : IsAdded piece_checked n now
  pub sizes : SizesAreTrue files n.files.items → SizesAreTrue files now.files.items

abbrev pub TakenAt : Files → Bool → Asked → Piece → Result (Unit {0}) Refusal → Needed → Needed → Type 0
TakenAt files edits asked piece (Ok x) n now = IsTaken files edits asked piece n now
TakenAt files edits asked piece (Err e) n now = e ≢ NoMemory → e ≢ StoreFailed → checked files edits asked piece ≡ Err e

-- after an Ok the names that are held are those after the turn
abbrev pub NamesAt : Files → List ℕ → Result (Unit {0}) Refusal → List HeldMovie → List HeldMovie → Type 0
NamesAt files name (Ok x) held held_now = names_held held_now ≡ (turn files (names_held held) name).cache
NamesAt files name (Err e) held held_now = Unit {0}

-- a look at a piece: a turn on its file, the checks of its asked tracks, and its selected rows behind the others
pub record IsLook (files : Files) (edits : Bool) (asked : Asked) (piece : Piece) (result : Result (Unit {0}) Refusal) (held held_now : List HeldMovie) (n now : Needed) (log log_now : Option (List Read)) : Type 0 where
  pub true_now : AreTrue files held_now
  pub taken : TakenAt files edits asked piece result n now
  pub names : NamesAt files piece.name result held held_now
  pub logged : LogsReads result (turn files (names_held held) piece.name).reads log log_now

-- ---- several

-- a piece with which the next cell may begin ends the looks
abbrev pub stops : Files → Bool → Asked → Option (PartCells × ℕ) → Piece → Bool
stops files edits asked next piece = option_map_or (λ n. begins (part_grid_of n.0) n.1 (source_of files edits asked piece)) next false

-- the names of the pieces that are looked at: through the first that can't be used
abbrev pub looked_names : Files → Bool → Asked → List Piece → List (List ℕ)
looked_names files edits asked pieces = map (λ piece. piece.name) (through_first (λ piece. is_err (checked files edits asked piece)) pieces)

-- the files and the rows of the needed pieces
pub record IsNeeded (files : Files) (edits : Bool) (asked : Asked) (pieces : List Piece) (n : Needed) : Type 0 where
  pub all : List CheckedPiece
  pub checked : each_in_turn (checked files edits asked) pieces ≡ Ok all
  pub needed : AreNeeded all n
  pub sizes : SizesAreTrue files n.files.items

abbrev pub NeededAt : Files → Bool → Asked → List Piece → Result Needed Refusal → Type 0
NeededAt files edits asked pieces (Ok n) = IsNeeded files edits asked pieces n
NeededAt files edits asked pieces (Err e) = e ≢ NoMemory → e ≢ StoreFailed → each_in_turn (checked files edits asked) pieces ≡ Err e

-- looks at these pieces, over no movie that is held
pub record AreLooks (files : Files) (edits : Bool) (asked : Asked) (pieces : List Piece) (result : Result Needed Refusal) (log log_now : Option (List Read)) : Type 0 where
  pub answered : NeededAt files edits asked pieces result
  pub logged : LogsReads result (turns files [] (looked_names files edits asked pieces)).reads log log_now

-- What is left of the looks: these pieces, over the movies that are held, when so many reads were made.
pub record IsWalk (files : Files) (edits : Bool) (asked : Asked) (pieces left : List Piece) (held : List HeldMovie) (n : Needed) (log log_now : Option (List Read)) : Type 0 where
  pub true_now : AreTrue files held
  pub done : List CheckedPiece
  pub rest : each_in_turn (checked files edits asked) pieces ≡ (each_in_turn (checked files edits asked) left >>= λ later. Ok (done ++ later))
  pub needed : AreNeeded done n
  pub sizes : SizesAreTrue files n.files.items
  pub made : List Read
  pub reads : (turns files [] (looked_names files edits asked pieces)).reads ≡ made ++ (turns files (names_held held) (looked_names files edits asked left)).reads
  pub logged : log_now ≡ told_with log made
