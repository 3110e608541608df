-- A reply that is put on a link, its head first (this project's own).
use Rattle.std.specs.Prelude.{◌≡◌, ℕ, List, ◌++◌, Option}
use Rattle.vod_source.specs.Told.{told_with, GrewByPrefix}
use Rattle.vod_session.specs.declared.replies.Put.{Put}
use Rattle.vod_session.specs.declared.replies.Put.TheVariants.{All, Head, Cut}

-- how much was put of a head and what stands behind it
abbrev pub IsPut : List ℕ → List ℕ → Option (List ℕ) → Option (List ℕ) → Put → Type 0
IsPut head rest before now All = now ≡ told_with before (head ++ rest)
IsPut head rest before now Head = (front : List ℕ) × (back : List ℕ) × (rest ≡ front ++ back) × (now ≡ told_with before (head ++ front))
IsPut head rest before now Cut = GrewByPrefix before now head
