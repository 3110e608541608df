-- Texts that are added one after another.
use Rattle.std.proofs.Common.{◌≡◌, ℕ, List, [], ◌++◌, ap, ◌∙◌, append_assoc}

pub three : (h a b c x y z : List ℕ) → x ≡ h ++ a → y ≡ x ++ b → z ≡ y ++ c → z ≡ h ++ ((a ++ b) ++ c)
three h a b c x y z p q r = r ∙ ap (λ l. l ++ c) (q ∙ ap (λ l. l ++ b) p) ∙ regroup h a b c
  where
    regroup : (h a b c : List ℕ) → ((h ++ a) ++ b) ++ c ≡ h ++ ((a ++ b) ++ c)
    regroup h a b c = simp append_assoc

-- a text, a number, the rest of that line and another line
pub start : (h a d s p e l x y z u : List ℕ) → x ≡ h ++ a → y ≡ x ++ d → z ≡ y ++ ((s ++ p) ++ e) → u ≡ z ++ l → u ≡ h ++ (((((a ++ d) ++ s) ++ p) ++ e) ++ l)
start h a d s p e l x y z u f g k m =
    m ∙ ap (λ t. t ++ l) (k ∙ ap (λ t. t ++ ((s ++ p) ++ e)) (g ∙ ap (λ t. t ++ d) f)) ∙ regroup h a d s p e l
  where
    regroup : (h a d s p e l : List ℕ) → (((h ++ a) ++ d) ++ ((s ++ p) ++ e)) ++ l ≡ h ++ (((((a ++ d) ++ s) ++ p) ++ e) ++ l)
    regroup h a d s p e l = simp append_assoc

-- a line of five pieces behind a text
pub ranged : (h t a m b s n e v w x y z : List ℕ) → v ≡ h ++ t → w ≡ v ++ a → x ≡ w ++ m → y ≡ x ++ b → z ≡ y ++ ((s ++ n) ++ e) → z ≡ h ++ ((((((t ++ a) ++ m) ++ b) ++ s) ++ n) ++ e)
ranged h t a m b s n e v w x y z f g i j k =
    k ∙ ap (λ l. l ++ ((s ++ n) ++ e)) (j ∙ ap (λ l. l ++ b) (i ∙ ap (λ l. l ++ m) (g ∙ ap (λ l. l ++ a) f))) ∙ regroup h t a m b s n e
  where
    regroup : (h t a m b s n e : List ℕ) → ((((h ++ t) ++ a) ++ m) ++ b) ++ ((s ++ n) ++ e) ≡ h ++ ((((((t ++ a) ++ m) ++ b) ++ s) ++ n) ++ e)
    regroup h t a m b s n e = simp append_assoc

-- a whole head
pub whole : (h s l r a c e w x y z : List ℕ) → h ≡ [] → w ≡ h ++ s → x ≡ w ++ l → y ≡ x ++ r → z ≡ y ++ ((a ++ c) ++ e) → z ≡ (((s ++ (l ++ r)) ++ a) ++ c) ++ e
whole h s l r a c e w x y z empty f g i j =
    j ∙ ap (λ t. t ++ ((a ++ c) ++ e)) (i ∙ ap (λ t. t ++ r) (g ∙ ap (λ t. t ++ l) (f ∙ ap (λ t. t ++ s) empty))) ∙ regroup s l r a c e
  where
    regroup : (s l r a c e : List ℕ) → ((s ++ l) ++ r) ++ ((a ++ c) ++ e) ≡ (((s ++ (l ++ r)) ++ a) ++ c) ++ e
    regroup s l r a c e = simp append_assoc
