-- Bytes without the white space at their ends.
use Rattle.std.proofs.Common.{◌≡◌, ℕ, ◌+◌, ◌-◌, ◌<◌, ◌≤◌, Bool, true, false, List, [], ◌∷◌, length, get_or, take, drop, add-one, drop-cons, length-drop, sym, ap, ◌∙◌, arith}
use Rattle.std.specs.Prelude.{if◌then◌else◌}
use Rattle.std.proofs.lemmas.List.{take_all}
use Rattle.std.proofs.Math.ListN.{drop_of_length-le}
use Rattle.httparse.specs.Grammar.{is_ows, skip_ows}

module _ (bytes : List ℕ) (i : ℕ) (within : i < length bytes) where
  here : drop i bytes ≡ get_or bytes i 0 ∷ drop (i + 1) bytes
  here = rw (add-one, drop-cons bytes i 0)

  pub space_next : is_ows (get_or bytes i 0) ≡ true → skip_ows (drop i bytes) ≡ skip_ows bytes → skip_ows (drop (i + 1) bytes) ≡ skip_ows bytes
  space_next space is = sym (ap (λ (t : Bool). if t then skip_ows (drop (i + 1) bytes) else get_or bytes i 0 ∷ drop (i + 1) bytes) space) ∙ ap skip_ows (sym here) ∙ is

  pub space_ends : is_ows (get_or bytes i 0) ≡ false → skip_ows (drop i bytes) ≡ skip_ows bytes → take (length bytes - i) (drop i bytes) ≡ skip_ows bytes
  space_ends other is =
      take_all (length bytes - i) (drop i bytes) (omega (arith, length-drop i bytes))
      ∙ here
      ∙ sym (ap (λ (t : Bool). if t then skip_ows (drop (i + 1) bytes) else get_or bytes i 0 ∷ drop (i + 1) bytes) other) ∙ ap skip_ows (sym here) ∙ is

pub all_space : (bytes : List ℕ) (i : ℕ) → length bytes ≤ i → skip_ows (drop i bytes) ≡ skip_ows bytes → [] ≡ skip_ows bytes
all_space bytes i past is = sym (ap skip_ows (drop_of_length-le bytes past)) ∙ is
