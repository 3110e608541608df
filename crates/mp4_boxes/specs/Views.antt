-- What the views of boxes in bytes show (ISO/IEC 14496-12, 4.2).
use Rattle.std.specs.Prelude.{◌≡◌, ℕ, ◌<◌, List, [], ◌∷◌, length, drop, Option, Some, None, ◌==◌, if◌then◌else◌}
use Rattle.std.specs.Borrow.{Bor}
use Rattle.mp4_model.specs.declared.BoxHead.{BoxHead}
use Rattle.mp4_model.specs.Boxes.{PlacedBox, header, placed_box, front_boxes, bad_place}
use Rattle.mp4_boxes.specs.declared.list.BoxRef.{BoxRef}
use Rattle.mp4_boxes.specs.declared.list.Boxes.{Boxes}

-- the box that a reference shows
abbrev pub placed : BoxRef → PlacedBox
placed b = record { at = b.at; kind = b.kind; head = b.head; body = b.body.now }

-- the boxes that are left to an iterator
abbrev pub boxes_left : Boxes → List PlacedBox
boxes_left b = front_boxes b.at b.rest.now

-- where they stop short of the end
abbrev pub bad_left : Boxes → Option ℕ
bad_left b = bad_place b.at b.rest.now

-- the box at the front of bytes that begin at a place, and the bytes after it, if there is one
abbrev pub IsFirst : ℕ → List ℕ → Option (BoxRef × Bor (List ℕ)) → Type 0
IsFirst at bytes None = header bytes (length bytes) ≡ None
IsFirst at bytes (Some p) = (h : BoxHead) × (header bytes (length bytes) ≡ Some h) × (placed p.0 ≡ placed_box at h bytes) × (p.1.now ≡ drop h.size bytes)

-- what taking the first box leaves
abbrev pub IsSplit : Boxes → Option BoxRef → Boxes → Type 0
IsSplit old None new = (new ≡ old) × (boxes_left old ≡ []) × (bad_left old ≡ (if length old.rest.now == 0 then None else Some old.at))
IsSplit old (Some b) new = (boxes_left old ≡ placed b ∷ boxes_left new) × (bad_left old ≡ bad_left new) × (length new.rest.now < length old.rest.now)
