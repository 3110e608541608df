-- Laws of files by name.
use Rattle.std.proofs.Common.{◌≡◌, ℕ, ◌+◌, ◌<◌, ◌≤◌, true, false, cond, List, [], ◌∷◌, drop, length, get_or, bytes_eq, Option, Some, None, option_map, unwrap_or, IfSome, Vec, refl, sym, ap, ◌∙◌, arith}
use Rattle.std.proofs.lemmas.List.{at_drop_more}
use Rattle.vod_source.specs.Stored.{Files, InFile, file_named, size_of}
use Rattle.vod_source.specs.Memory.{files_in}

-- the first file has the name, or not
file_named-cons : (f : List ℕ × List ℕ) (files : Files) (name : List ℕ) → file_named (f ∷ files) name ≡ cond (bytes_eq f.0 name) (Some f.1) (file_named files name)
unfolding file_named
file_named-cons f files name = refl

pub file_named-nil : (name : List ℕ) → file_named [] name ≡ None
unfolding file_named
file_named-nil name = refl

module _ {A : Type 0} (files : List (List ℕ × Vec ℕ A)) (i : ℕ) (item : List ℕ × Vec ℕ A) (name : List ℕ) (within : i < length files) (is : item ≡ get_or files i item) where
  next : file_named (files_in (drop i files)) name ≡ cond (bytes_eq item.0 name) (Some item.1.items) (file_named (files_in (drop (i + 1) files)) name)
  next =
      at_drop_more (λ l. file_named (files_in l) name) files i item within
      ∙ ap (λ f. file_named (files_in (f ∷ drop (i + 1) files)) name) (sym is) ∙ file_named-cons _ _ name

  -- the file at this place has the name
  pub file_named-hit : bytes_eq item.0 name ≡ true → file_named (files_in (drop i files)) name ≡ Some item.1.items
  file_named-hit hit = next ∙ ap (λ b. cond b (Some item.1.items) (file_named (files_in (drop (i + 1) files)) name)) hit

  -- or not
  pub file_named-miss : bytes_eq item.0 name ≡ false → file_named (files_in (drop i files)) name ≡ file_named (files_in (drop (i + 1) files)) name
  file_named-miss miss = next ∙ ap (λ b. cond b (Some item.1.items) (file_named (files_in (drop (i + 1) files)) name)) miss

-- a range within the size that a store has told of a file
pub within_size : (content : Option Files) (name : List ℕ) (size at n : ℕ) → IfSome content (λ files. Some size ≡ size_of files name) → at + n ≤ size
    → InFile content name at n
within_size None name size at n told within = tt
within_size (Some files) name size at n told within = sized (file_named files name) told
  where
    sized : (file : Option (List ℕ)) → Some size ≡ option_map length file → at + n ≤ length (unwrap_or file [])
    sized None e = cc
    sized (Some bytes) e = let same : size ≡ length bytes = cc in omega arith
