-- The box at the front of bytes.
use Rattle.std.proofs.Common.{◌≡◌, ℕ, ◌<◌, ◌≤◌, Ok, Err, true, false, eqb, List, length, drop, Some, None, refl, ap, subst, arith, length-drop}
use Rattle.std.proofs.lemmas.Bool.{ne_eqb}
use Rattle.mp4_model.specs.declared.BoxHead.{BoxHead}
use Rattle.mp4_model.specs.Boxes.{header, placed_box, front_boxes, bad_place, boxes, whole_box}
use Rattle.mp4_model.proofs.BoxesLemmas.{header_says}

-- the header lies within the box, and the box within what is left
pub record HeaderBounds (left : ℕ) (h : BoxHead) : Type 0 where
  pub covers : h.head ≤ h.size
  pub within : h.size ≤ left
  pub some : 8 ≤ h.size

pub header_bounds : (bytes : List ℕ) (left : ℕ) (h : BoxHead) → header bytes left ≡ Some h → HeaderBounds left h
header_bounds bytes left h e =
    let says = header_says bytes left h e in
    let size = ap (λ (k : BoxHead). k.size) says.is_head in
    let head = ap (λ (k : BoxHead). k.head) says.is_head in
    record { covers = omega (arith, says.covers, size, head); within = omega (arith, says.within, size); some = omega (arith, says.at_least_eight, size) }

module _ (bytes : List ℕ) where
  -- no box, and so none that is whole
  pub whole_box-none : header bytes (length bytes) ≡ None → whole_box bytes ≡ None
  unfolding whole_box
  whole_box-none e = rw e refl

  -- the first box is the whole, or it stops short
  pub whole_box-some : (h : BoxHead) → header bytes (length bytes) ≡ Some h → length (drop h.size bytes) ≡ 0 → whole_box bytes ≡ Some (placed_box 0 h bytes)
  unfolding whole_box
  whole_box-some h e none =
      let bounds = header_bounds bytes (length bytes) h e in
      let same : h.size ≡ length bytes = omega (arith, bounds.within, length-drop h.size bytes, none) in
      let test : eqb h.size (length bytes) ≡ true = subst (λ (n : ℕ). eqb h.size n ≡ true) same (eqb_same h.size) in
      rw (e, test) refl
    where
      eqb_same : (n : ℕ) → eqb n n ≡ true
      eqb_same n = grind arith

  pub whole_box-short : (h : BoxHead) → header bytes (length bytes) ≡ Some h → 0 < length (drop h.size bytes) → whole_box bytes ≡ None
  unfolding whole_box
  whole_box-short h e more =
      let differs : eqb h.size (length bytes) ≡ false = ne_eqb h.size (length bytes) (λ same. omega (arith, length-drop h.size bytes, more)) in
      rw (e, differs) refl

  -- a list of boxes has no bad place
  pub boxes-ok : (at : ℕ) → bad_place at bytes ≡ None → boxes at bytes ≡ Ok (front_boxes at bytes)
  unfolding boxes
  boxes-ok at e = rw e refl

  pub boxes-err : (at place : ℕ) → bad_place at bytes ≡ Some place → boxes at bytes ≡ Err place
  unfolding boxes
  boxes-err at place e = rw e refl
