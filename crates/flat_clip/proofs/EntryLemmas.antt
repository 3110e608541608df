-- Where the data reference of a sample entry stands.
use Rattle.std.proofs.Common.{◌≡◌, ℕ, ◌+◌, ◌-◌, ◌≤◌, true, false, Bool, List, [], ◌∷◌, ◌++◌, length, take, drop, refl, sym, ap, ◌∙◌, length-take, length-drop, append_assoc, cond, ne_eqb, take_all, arith}
use Rattle.std.specs.Prelude.{IsSomeAnd, ◌==◌, None}
use Rattle.std.specs.Bool.{then_some}
use Rattle.std.specs.Option.{option_map_or}
use Rattle.std.specs.Int.{w32, from_be_bytes}
use Rattle.vod_bytes.specs.Fields.{u32_at}
use Rattle.mp4_model.specs.declared.BoxHead.{BoxHead}
use Rattle.mp4_model.specs.Boxes.{header_size, box_size, header, placed_box, whole_box}
use Rattle.media_model.specs.InitSegment.{payload_place, with_data_reference, IsEntry}
use Rattle.media_model.proofs.InitSizes.{HasReference}

-- the field at the front, read of the first four bytes alone or of all
payload_place-is : (entry : List ℕ) → payload_place entry ≡ header_size entry
unfolding header_size u32_at
payload_place-is [] = refl
payload_place-is (a ∷ []) = refl
payload_place-is (a ∷ b ∷ []) = refl
payload_place-is (a ∷ b ∷ c ∷ []) = refl
payload_place-is (a ∷ b ∷ c ∷ d ∷ entry) = refl

header_size-long : (entry : List ℕ) → u32_at entry 0 ≡ 1 → header_size entry ≡ 16
unfolding header_size
header_size-long entry one = rw one refl

header_size-short : (entry : List ℕ) → (u32_at entry 0 ≡ 1 → ⊥) → header_size entry ≡ 8
unfolding header_size
header_size-short entry other = ap (λ b. cond b 16 8) (ne_eqb (u32_at entry 0) 1 other)

-- where the payload begins, by the field at the front
pub payload_place-long : (entry : List ℕ) (field : ℕ) → field ≡ u32_at entry 0 → field ≡ 1 → payload_place entry ≡ 16
payload_place-long entry field is one = payload_place-is entry ∙ header_size-long entry (sym is ∙ one)

pub payload_place-short : (entry : List ℕ) (field : ℕ) → field ≡ u32_at entry 0 → (field ≡ 1 → ⊥) → payload_place entry ≡ 8
payload_place-short entry field is other = payload_place-is entry ∙ header_size-short entry (λ one. other (is ∙ one))

-- it begins behind eight bytes at least
pub payload_place-least : (entry : List ℕ) → 8 ≤ payload_place entry
payload_place-least entry = least (from_be_bytes w32 (take 4 entry) == 1)
  where
    least : (b : Bool) → 8 ≤ cond b 16 8
    least true = omega arith
    least false = omega arith

-- an entry with its data reference, piece by piece
pub with_data_reference-pieces : (old entry : List ℕ) (place : ℕ) → place ≡ payload_place entry
    → ((old ++ take (place + 6) entry) ++ (0 ∷ 1 ∷ [])) ++ take (length entry - (place + 8)) (drop (place + 8) entry) ≡ old ++ with_data_reference entry
unfolding with_data_reference
with_data_reference-pieces old entry place is =
    ap (λ (end : List ℕ). ((old ++ take (place + 6) entry) ++ (0 ∷ 1 ∷ [])) ++ end) (take_all (length entry - (place + 8)) (drop (place + 8) entry) (omega (arith, length-drop (place + 8) entry)))
    ∙ rw is (simp append_assoc)

-- ---- an entry that is one whole box

module _ (entry kind : List ℕ) (head size : ℕ) where
  abbrev head_of : BoxHead
  head_of = record { kind = kind; head = head; size = size }

  within-same : (b : Bool) → IsSomeAnd (then_some b (placed_box 0 head_of entry)) (λ b. 8 ≤ length b.body) → head + 8 ≤ length entry
  unfolding placed_box
  within-same false h = absurd h
  within-same true h = omega (arith, h, length-drop head (take size entry), length-take size entry)

  within-fits : (b : Bool) → IsSomeAnd (option_map_or (λ h. then_some (h.size == length entry) (placed_box 0 h entry)) (then_some b head_of) None) (λ b. 8 ≤ length b.body)
      → head + 8 ≤ length entry
  within-fits false h = absurd h
  within-fits true h = within-same (size == length entry) h

payload-within : (entry : List ℕ) → IsEntry entry → header_size entry + 8 ≤ length entry
unfolding whole_box header
payload-within entry is = within-fits entry (take 4 (drop 4 entry)) (header_size entry) (box_size entry (length entry)) _ is.whole

-- it has room for its data reference
pub has_reference : (entry : List ℕ) → IsEntry entry → HasReference entry
has_reference entry is = rw payload_place-is (payload-within entry is)
