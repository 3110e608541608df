-- Bytes as bits.
use Rattle.std.specs.Prelude.{ℕ, List, [], ◌∷◌, flat_map}
use Rattle.std.specs.Int.{bit_at}

-- the bits of a byte, most significant first
abbrev pub byte_bits : ℕ → List ℕ
byte_bits b = bit_at b 7 ∷ bit_at b 6 ∷ bit_at b 5 ∷ bit_at b 4 ∷ bit_at b 3 ∷ bit_at b 2 ∷ bit_at b 1 ∷ bit_at b 0 ∷ []

-- the bits of bytes, byte after byte
abbrev pub bits_of : List ℕ → List ℕ
bits_of bytes = flat_map byte_bits bytes
