-- The bits of bytes as a number, and a window of them by division.
use Rattle.std.proofs.Common.{◌≡◌, ℕ, zero, suc, ◌+◌, ◌*◌, ◌-◌, ◌/◌, ◌%◌, ◌^◌, ◌<◌, ◌≤◌, List, [], ◌∷◌, ◌++◌, length, take, drop, get_or, refl, sym, ap, subst, ◌∙◌, arith, length-drop, true, false}
use Rattle.std.proofs.lemmas.List.{take-append-drop, length-take-le, drop-take, take-take, drop-drop}
use Rattle.std.proofs.lemmas.Nat.{pow-add, div-mul-add}
use Rattle.std.proofs.lemmas.Nat.Bits.{bit_at-lt}
use Rattle.std.proofs.Math.Nat.{mul-add-mod_self_right, mod-eq_of_lt, pow-zero, pow-suc, mul_assoc, add-mul}
use Rattle.std.proofs.Math.Seq.{take-append-add, drop-append-add}
use Rattle.std.proofs.lemmas.Int.Digits.{number_after_append, number_lt}
use Rattle.std.specs.Int.Digits.{number_from_digits_after, number_from_digits, AllBelowBase}
use Rattle.byteorder.specs.Endian.{big_from}
use Rattle.byteorder.specs.Numbers.{big_from-cons}
use Rattle.std.proofs.lemmas.Bool.{le-leb, lt-leb}
use Rattle.std.specs.Prelude.{nat_le}
use Rattle.std.specs.Int.{div_ceil}
use Rattle.vod_bytes.specs.Bits.{byte_bits, bits_of}

-- ---- how many bits there are

pub length-bits_of : (bytes : List ℕ) → length (bits_of bytes) ≡ 8 * length bytes
length-bits_of [] = refl
length-bits_of (b ∷ bytes) = omega (arith, length-bits_of bytes)

-- ---- digits in parts

-- digits in front of others are worth more
number_after : (b n : ℕ) (ds : List ℕ) → number_from_digits_after b n ds ≡ n * b ^ length ds + number_from_digits b ds
number_after b n [] = sym (ap (λ (x : ℕ). n * x + 0) (pow-zero b) ∙ omega arith)
number_after b n (d ∷ ds) = grind (arith, number_after b (n * b + d) ds, number_after b d ds, pow-suc b (length ds), add-mul, mul_assoc)

number_parts : (b : ℕ) (xs ys : List ℕ) → number_from_digits b (xs ++ ys) ≡ number_from_digits b xs * b ^ length ys + number_from_digits b ys
number_parts b xs ys = number_after_append b 0 xs ys ∙ number_after b (number_from_digits b xs) ys

below-take : (b n : ℕ) (ds : List ℕ) → AllBelowBase b ds → AllBelowBase b (take n ds)
below-take b zero ds h = tt
below-take b (suc n) [] h = tt
below-take b (suc n) (d ∷ ds) h = (h.0, below-take b n ds h.1)

below-drop : (b n : ℕ) (ds : List ℕ) → AllBelowBase b ds → AllBelowBase b (drop n ds)
below-drop b zero ds h = h
below-drop b (suc n) [] h = tt
below-drop b (suc n) (d ∷ ds) h = below-drop b n ds h.1

-- the middle digits of a number, by division
digit_window : (b : ℕ) (xs : List ℕ) (u n t : ℕ) → 0 < b → AllBelowBase b xs → length xs ≡ u + n + t
    → number_from_digits b (take n (drop u xs)) ≡ number_from_digits b xs / b ^ t % b ^ n
digit_window b xs u n t some below len =
    let a = number_from_digits b (take u xs) in
    let m = number_from_digits b (take n (drop u xs)) in
    let w = number_from_digits b (drop n (drop u xs)) in
    let later : length (drop u xs) ≡ n + t = omega (arith, length-drop u xs) in
    let mids : length (take n (drop u xs)) ≡ n = length-take-le n (drop u xs) (omega arith) in
    let lasts : length (drop n (drop u xs)) ≡ t = omega (arith, length-drop n (drop u xs)) in
    let outer : number_from_digits b xs ≡ a * b ^ (n + t) + number_from_digits b (drop u xs) =
    ap (number_from_digits b) (sym (take-append-drop u xs)) ∙ number_parts b (take u xs) (drop u xs) ∙ ap (λ (e : ℕ). a * b ^ e + number_from_digits b (drop u xs)) later in
    let inner : number_from_digits b (drop u xs) ≡ m * b ^ t + w =
    ap (number_from_digits b) (sym (take-append-drop n (drop u xs))) ∙ number_parts b (take n (drop u xs)) (drop n (drop u xs)) ∙ ap (λ (e : ℕ). m * b ^ e + w) lasts in
    let small : w < b ^ t = subst (λ (e : ℕ). w < b ^ e) lasts (number_lt b (drop n (drop u xs)) (below-drop b n (drop u xs) (below-drop b u xs below))) in
    let middle : m < b ^ n = subst (λ (e : ℕ). m < b ^ e) mids (number_lt b (take n (drop u xs)) (below-take b n (drop u xs) (below-drop b u xs below))) in
    let split : number_from_digits b xs ≡ (a * b ^ n + m) * b ^ t + w = rw (outer, inner, pow-add b n t) (grind (arith, add-mul, mul_assoc)) in
    let divided : number_from_digits b xs / b ^ t ≡ a * b ^ n + m = ap (λ (x : ℕ). x / b ^ t) split ∙ div-mul-add (a * b ^ n + m) (b ^ t) w small in
    sym (ap (λ (x : ℕ). x % b ^ n) divided ∙ mul-add-mod_self_right a (b ^ n) m ∙ mod-eq_of_lt middle)

-- ---- the bits of bytes

take-bits_of : (k : ℕ) (bytes : List ℕ) → k ≤ length bytes → take (8 * k) (bits_of bytes) ≡ bits_of (take k bytes)
take-bits_of zero bytes h = refl
take-bits_of (suc k) [] h = absurd (omega arith)
take-bits_of (suc k) (b ∷ bytes) h =
    let e : 8 * suc k ≡ length (byte_bits b) + 8 * k = omega arith in
    ap (λ (n : ℕ). take n (byte_bits b ++ bits_of bytes)) e ∙ take-append-add (byte_bits b) (bits_of bytes) (8 * k)
    ∙ ap (λ (bs : List ℕ). byte_bits b ++ bs) (take-bits_of k bytes (omega arith))

drop-bits_of : (k : ℕ) (bytes : List ℕ) → k ≤ length bytes → drop (8 * k) (bits_of bytes) ≡ bits_of (drop k bytes)
drop-bits_of zero bytes h = refl
drop-bits_of (suc k) [] h = absurd (omega arith)
drop-bits_of (suc k) (b ∷ bytes) h =
    let e : 8 * suc k ≡ length (byte_bits b) + 8 * k = omega arith in
    ap (λ (n : ℕ). drop n (byte_bits b ++ bits_of bytes)) e ∙ drop-append-add (byte_bits b) (bits_of bytes) (8 * k)
    ∙ drop-bits_of k bytes (omega arith)

-- each is 0 or 1
below-bits_of : (bytes : List ℕ) → AllBelowBase 2 (bits_of bytes)
below-bits_of [] = tt
below-bits_of (b ∷ bytes) =
    (bit_at-lt b 7, (bit_at-lt b 6, (bit_at-lt b 5, (bit_at-lt b 4, (bit_at-lt b 3, (bit_at-lt b 2, (bit_at-lt b 1, (bit_at-lt b 0, below-bits_of bytes))))))))

-- the bits of a byte behind a number
number-byte_bits : (a b : ℕ) (bits : List ℕ) → b < 256 → number_from_digits_after 2 a (byte_bits b ++ bits) ≡ number_from_digits_after 2 (a * 256 + b) bits
number-byte_bits a b bits h = ap (λ (n : ℕ). number_from_digits_after 2 n bits) (omega arith)

-- the bits of bytes are the number that the bytes are
number-bits_of : (a n : ℕ) (bytes : List ℕ) → n ≤ length bytes → ((i : ℕ) → get_or bytes i 0 < 256)
    → number_from_digits_after 2 a (bits_of (take n bytes)) ≡ a * 256 ^ n + big_from 0 n bytes
number-bits_of a zero bytes h fit = omega arith
number-bits_of a (suc n) [] h fit = absurd (omega arith)
number-bits_of a (suc n) (b ∷ bytes) h fit =
    let front = number-byte_bits a b (bits_of (take n bytes)) (fit 0) in
    let back = number-bits_of (a * 256 + b) n bytes (omega arith) (λ i. fit (suc i)) in
    front ∙ back ∙ grind (arith, big_from-cons 0 n b bytes, pow-suc 256 n, add-mul, mul_assoc)

-- so many bits of bytes, behind some that are passed over, by division of the bytes that they lie in
pub bit_window : (bytes : List ℕ) (span u n : ℕ) → u + n ≤ 8 * span → span ≤ length bytes → ((i : ℕ) → get_or bytes i 0 < 256)
    → number_from_digits 2 (take n (drop u (bits_of bytes))) ≡ big_from 0 span bytes / 2 ^ (8 * span - (u + n)) % 2 ^ n
bit_window bytes span u n within room fit =
    let xs = bits_of (take span bytes) in
    let len : length xs ≡ u + n + (8 * span - (u + n)) = omega (arith, length-bits_of (take span bytes), length-take-le span bytes room) in
    let same : take n (drop u xs) ≡ take n (drop u (bits_of bytes)) =
    sym (drop-take u n xs) ∙ ap (λ (ys : List ℕ). drop u (take (u + n) ys)) (sym (take-bits_of span bytes room)) ∙ ap (drop u) (take-take (u + n) (8 * span) (bits_of bytes) within) ∙ drop-take u n (bits_of bytes) in
    let number : number_from_digits 2 xs ≡ big_from 0 span bytes = number-bits_of 0 span bytes room fit ∙ omega arith in
    ap (number_from_digits 2) (sym same) ∙ digit_window 2 xs u n (8 * span - (u + n)) (omega arith) (below-bits_of (take span bytes)) len
    ∙ ap (λ (x : ℕ). x / 2 ^ (8 * span - (u + n)) % 2 ^ n) number

-- what is left behind some bits, with whole bytes passed over
pub bits_behind : (bytes : List ℕ) (e : ℕ) → e ≤ 8 * length bytes → drop (e % 8) (bits_of (drop (e / 8) bytes)) ≡ drop e (bits_of bytes)
bits_behind bytes e h = ap (drop (e % 8)) (sym (drop-bits_of (e / 8) bytes (omega arith))) ∙ drop-drop (e % 8) (8 * (e / 8)) (bits_of bytes) ∙ ap (λ (n : ℕ). drop n (bits_of bytes)) (omega arith)

-- whether so many bits are left behind some, by the bytes that they lie in
pub enough_bits : (bytes : List ℕ) (used n : ℕ) → used ≤ 8 * length bytes → div_ceil (used + n) 8 ≤ length bytes → nat_le n (length (drop used (bits_of bytes))) ≡ true
enough_bits bytes used n within room =
    le-leb n (length (drop used (bits_of bytes))) (omega (arith, length-drop used (bits_of bytes), length-bits_of bytes))

pub few_bits : (bytes : List ℕ) (used n : ℕ) → used ≤ 8 * length bytes → length bytes < div_ceil (used + n) 8 → nat_le n (length (drop used (bits_of bytes))) ≡ false
few_bits bytes used n within short =
    lt-leb n (length (drop used (bits_of bytes))) (omega (arith, length-drop used (bits_of bytes), length-bits_of bytes))
