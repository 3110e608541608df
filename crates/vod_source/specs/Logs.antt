-- A store that keeps a log of its own (this project's own).
use Rattle.std.specs.Prelude.{◌≡◌, ◌≤◌, ◌⊎◌, Bool, true, false, ℕ, ◌-◌, ◌<◌, List, [], map, length, All, slice_index_or}
use Rattle.vod_source.specs.declared.logged.Lent.{Lent}
use Rattle.vod_source.specs.Causes.{Rose}
use Rattle.vod_source.specs.Memory.{raised}
use Rattle.vod_source.specs.Stored.{Read}

-- a log with room: the names, the entries, which name them by number, and for how many more entries there is room
pub record LogValue : Type 0 where
  pub names : List (List ℕ)
  pub entries : List Lent
  pub spare : ℕ

-- a store that keeps a log: the store within, the names, the entries, which name them by number, and how often the log
-- could not grow
pub record LoggedValue (S : Type 0) : Type 0 where
  pub inner : S
  pub names : List (List ℕ)
  pub entries : List Lent
  pub refused : ℕ

-- what an entry stands for
abbrev pub read_of : List (List ℕ) → Lent → Read
read_of names entry = (slice_index_or names entry.name [], entry.at, entry.n)

-- what entries stand for
abbrev pub reads_of : List (List ℕ) → List Lent → List Read
reads_of names entries = map (read_of names) entries

-- the last name, or none
abbrev pub last_name : List (List ℕ) → List ℕ
last_name names = slice_index_or names (length names - 1) []

-- each entry has a name
abbrev pub AreNamed : List (List ℕ) → List Lent → Type 0
AreNamed names entries = All (λ entry. entry.name < length names) entries

-- A failure is the inner store's, whose count rose, or else the log's, which could not grow once more. Nothing else counts
-- as refused.
abbrev pub HasEither : ℕ → ℕ → ℕ → ℕ → Bool → Type 0
HasEither before now refused_before refused_now false = (before ≤ now) × (refused_now ≡ refused_before)
HasEither before now refused_before refused_now true =
    ((before ≤ now) × Rose before now × (refused_now ≡ refused_before)) ⊎ ((now ≡ before) × (refused_now ≡ raised refused_before))
