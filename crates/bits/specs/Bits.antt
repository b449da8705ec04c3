-- The bits of bytes, the most significant first, and the number that bits spell.
use Rattle.std.specs.Prelude.{ℕ, zero, suc, ◌/◌, ◌%◌, List, [], ◌∷◌, ◌++◌, take, drop}
use Rattle.std.specs.Int.Digits.{number_from_digits}

-- the eight bits of a byte
abbrev pub byte_bits : ℕ → List ℕ
byte_bits b =
    b / 128 % 2 ∷ b / 64 % 2 ∷ b / 32 % 2 ∷ b / 16 % 2 ∷ b / 8 % 2 ∷ b / 4 % 2 ∷ b / 2 % 2 ∷ b % 2 ∷ []

-- the bits of a row of bytes
unfoldable pub bits : List ℕ → List ℕ
bits [] = []
bits (b ∷ bs) = byte_bits b ++ bits bs

-- the bits of the field that begins at a bit and has some width
abbrev pub field : List ℕ → ℕ → ℕ → List ℕ
field bs at width = take width (drop at (bits bs))

-- the number that bits spell in base two
abbrev pub spelled : List ℕ → ℕ
spelled ds = number_from_digits 2 ds

-- the bits of a number in a field of some width
unfoldable pub digits : ℕ → ℕ → List ℕ
digits zero n = []
digits (suc width) n = digits width (n / 2) ++ (n % 2 ∷ [])
