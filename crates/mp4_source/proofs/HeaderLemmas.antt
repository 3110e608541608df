-- One header of a stored file.
use Rattle.std.proofs.Common.{◌≡◌, ℕ, ◌+◌, ◌<◌, ◌≤◌, min, List, length, take, drop, Option, Some, None, IfSome, refl, sym, ap, ◌∙◌, inl, inr, arith, length-drop}
use Rattle.std.proofs.lemmas.List.{take_all}
use Rattle.std.proofs.lemmas.Bool.{cases_lt}
use Rattle.mp4_model.specs.declared.BoxHead.{BoxHead}
use Rattle.mp4_model.specs.Boxes.{header}
use Rattle.mp4_model.proofs.BoxesLemmas.{header_front, header_no_room, size_within}
use Rattle.vod_source.specs.Stored.{Files, bytes_of, bytes_at}

-- a read of 16 bytes, or of what is left, shows the header
pub header_of_read : (bytes : List ℕ) (left : ℕ) → length bytes ≡ left → header (take (min left 16) bytes) left ≡ header bytes left
header_of_read bytes left is = elim (cases_lt left 16) [
  | inl short ↦ let all : min left 16 ≡ left = omega arith in rw (all, take_all left bytes (omega arith)) refl
  | inr long ↦ let front : min left 16 ≡ 16 = omega arith in rw front (header_front bytes left)
]

-- a header says no more than what is left
pub found_fits : (bytes : List ℕ) (left : ℕ) (found : Option BoxHead) → found ≡ header bytes left → IfSome found (λ h. h.size ≤ left)
found_fits bytes left None is = tt
found_fits bytes left (Some h) is = size_within bytes left h (sym is)

module _ (name : List ℕ) (at left : ℕ) where
  -- where the store tells its files, a read shows the header that the file has there
  pub told_header : (content : Option Files) (n : ℕ) (piece : List ℕ) (found : Option BoxHead)
      → IfSome content (λ files. at + left ≡ length (bytes_of files name)) → n ≡ min left 16
      → IfSome content (λ files. piece ≡ bytes_at files name at n) → found ≡ header piece left
      → IfSome content (λ files. found ≡ header (drop at (bytes_of files name)) left)
  told_header None n piece found rest size told is = tt
  told_header (Some files) n piece found rest size told is =
      let bytes : List ℕ = drop at (bytes_of files name) in
      is ∙ ap (λ (p : List ℕ). header p left) told ∙ ap (λ (k : ℕ). header (take k bytes) left) size
      ∙ header_of_read bytes left (omega (arith, length-drop at (bytes_of files name), rest))

  -- there is none where fewer than 8 bytes are left
  pub told_no_room : (content : Option Files) → left < 8 → IfSome content (λ files. None ≡ header (drop at (bytes_of files name)) left)
  told_no_room None short = tt
  told_no_room (Some files) short = sym (header_no_room (drop at (bytes_of files name)) left short)
