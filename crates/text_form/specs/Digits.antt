-- Hexadecimal digits in lower case, the highest first.
use Rattle.std.specs.Prelude.{ℕ, ◌/◌, ◌%◌, List, [], ◌∷◌}
use Rattle.hex.specs.Hex.{encode_lower}

-- a byte as two digits
abbrev pub two_digits : (byte : ℕ) → List ℕ
two_digits byte = encode_lower (byte ∷ [])

-- a word as four digits
abbrev pub four_digits : (word : ℕ) → List ℕ
four_digits word = encode_lower (word / 0x100 ∷ word % 0x100 ∷ [])
