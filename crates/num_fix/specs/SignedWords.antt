-- Signed 16-bit numbers as two bytes, low byte first, and the entries of a list of numbers.
use Rattle.std.specs.Prelude.{ℕ, ◌+◌, ◌*◌, List, [], ◌∷◌, ℤ, pos, slice_index_or}
use Rattle.std.specs.Int.{w16, cast_signed}

-- two bytes read as a signed number
abbrev pub signed_word : ℕ → ℕ → ℤ
signed_word low high = cast_signed w16 (low + 256 * high)

-- bytes read as signed numbers, two by two; an odd last byte is dropped
abbrev pub signed_words : List ℕ → List ℤ
signed_words (low ∷ high ∷ rest) = signed_word low high ∷ signed_words rest
signed_words (low ∷ []) = []
signed_words [] = []

-- the number at a place of a list, counted from 0; past the end it is 0
abbrev pub number_at : List ℤ → ℕ → ℤ
number_at numbers place = slice_index_or numbers place (pos 0)
