-- The objects in memory (this project's own): which of their calls fail, and what they hold.
use Rattle.std.specs.Prelude.{ℕ, Bool, ◌+◌, ◌-◌, ◌<◌, ◌^◌, min, List, [], ◌∷◌, ◌++◌, length, take, drop, replicate, Contains, map, Vec, bytes_eq, nat_lt, if◌then◌else◌}
use Rattle.vod_source.specs.Stored.{Files}

-- a count of 64 bits, one higher; it stands still at its type's end
abbrev pub raised : ℕ → ℕ
raised count = min (count + 1) (2 ^ 64 - 1)

-- the calls that are to fail, by number from 1, how many calls were made and how many failed
pub record Plan : Type 0 where
  pub fails : List ℕ
  pub made : ℕ
  pub faults : ℕ

-- the next call is to fail; a call past the last number of 64 bits isn't
abbrev pub IsDue : Plan → Type 0
IsDue plan = (plan.made < 2 ^ 64 - 1) × Contains plan.fails (plan.made + 1)

-- one more call was made
abbrev pub counted : Plan → Plan
counted plan = record plan { made = raised plan.made }

-- and failed
abbrev pub failed : Plan → Plan
failed plan = record plan { faults = raised plan.faults }

-- one more call was made, and failed or not
abbrev pub after_call : Bool → Plan → Plan
after_call is_failed plan = if is_failed then failed (counted plan) else counted plan

-- files of a list in memory, which begins with the names
abbrev pub files_in : {A : Type 0} → List (List ℕ × Vec ℕ A) → Files
files_in files = map (λ f. (f.0, f.1.items)) files

-- a store in memory
pub record StoreValue : Type 0 where
  pub files : Files
  pub plan : Plan

-- bytes that were written, and how many there is room for
pub record RoomValue : Type 0 where
  pub written : List ℕ
  pub room : ℕ

-- the bytes don't go into the room any more
abbrev pub IsFull : RoomValue → List ℕ → Type 0
IsFull value bytes = value.room < length value.written + length bytes

-- a sink in memory
pub record SinkValue : Type 0 where
  pub out : RoomValue
  pub plan : Plan

-- a sink in memory that grows
pub record VecSinkValue : Type 0 where
  pub bytes : List ℕ
  pub faults : ℕ

-- pieces from the first that isn't empty on
abbrev pub skipped : List (List ℕ) → List (List ℕ)
skipped [] = []
skipped ([] ∷ pieces) = skipped pieces
skipped ((byte ∷ bytes) ∷ pieces) = (byte ∷ bytes) ∷ pieces

-- the first piece, or none
abbrev pub first_piece : List (List ℕ) → List ℕ
first_piece [] = []
first_piece (piece ∷ pieces) = piece

-- pieces whose first lacks its first n bytes
abbrev pub cut : ℕ → List (List ℕ) → List (List ℕ)
cut n [] = []
cut n (piece ∷ pieces) = drop n piece ∷ pieces

-- pieces of a list in memory
abbrev pub pieces_in : {A : Type 0} → List (Vec ℕ A) → List (List ℕ)
pieces_in pieces = map (λ piece. piece.items) pieces

-- a link in memory; its input is the join of the pieces
pub record LinkValue : Type 0 where
  pub input : List (List ℕ)
  pub out : RoomValue
  pub plan : Plan

-- a door in memory
pub record DoorValue : Type 0 where
  pub coming : List LinkValue
  pub returned : List LinkValue
  pub out : ℕ
  pub plan : Plan

-- n bytes of a text from a place on, 0 past its end
abbrev pub zero_filled : List ℕ → ℕ → ℕ → List ℕ
zero_filled text at n = take n (drop at text) ++ replicate (n - length (take n (drop at text))) 0

-- one file, whose bytes after the first are 0 up to the size
pub record HoleValue : Type 0 where
  pub name : List ℕ
  pub first : List ℕ
  pub size : ℕ

abbrev pub hole_file : HoleValue → Files
hole_file hole = (hole.name, hole.first ++ replicate (hole.size - length hole.first) 0) ∷ []

-- one file of two texts: how many loans show the first, and how many there were
pub record ShiftValue : Type 0 where
  pub name : List ℕ
  pub first : List ℕ
  pub second : List ℕ
  pub turn : ℕ
  pub loans : ℕ

-- the text that the next loan of a file of this name shows
abbrev pub text_shown : ShiftValue → List ℕ → List ℕ
text_shown shift name = if bytes_eq shift.name name then (if nat_lt shift.loans shift.turn then shift.first else shift.second) else []
