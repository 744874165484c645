-- Hexadecimal digits are characters of ASCII.
use Rattle.std.proofs.Common.{◌≡◌, ap, ℕ, zero, suc, ◌<◌, ◌/◌, ◌%◌, List, [], ◌∷◌, ◌++◌, get_or, arith, append_assoc}
use Rattle.hex.specs.Hex.{lower_digits, encode_with}
use Rattle.text_form.specs.Digits.{two_digits}

abbrev AreAscii : List ℕ → Type 0
AreAscii [] = Unit {0}
AreAscii (digit ∷ digits) = (digit < 128) × AreAscii digits

one_of : (digits : List ℕ) (k : ℕ) → AreAscii digits → get_or digits k 0 < 128
one_of [] k are = omega arith
one_of (digit ∷ digits) zero are = are.0
one_of (digit ∷ digits) (suc k) are = one_of digits k are.1

lower_ascii : AreAscii lower_digits
lower_ascii = (omega arith, (omega arith, (omega arith, (omega arith, (omega arith, (omega arith, (omega arith, (omega arith, (omega arith, (omega arith, (omega arith, (omega arith, (omega arith, (omega arith, (omega arith, (omega arith, tt))))))))))))))))

pub high_ascii : (byte : ℕ) → get_or (two_digits byte) 0 0 < 128
unfolding encode_with
high_ascii byte = one_of lower_digits (byte / 16) lower_ascii

pub low_ascii : (byte : ℕ) → get_or (two_digits byte) 1 0 < 128
unfolding encode_with
low_ascii byte = one_of lower_digits (byte % 16) lower_ascii

-- a text with two more digits
pub with_digits : (text : List ℕ) (byte : ℕ) (end : List ℕ) → ((text ++ get_or (two_digits byte) 0 0 ∷ []) ++ get_or (two_digits byte) 1 0 ∷ []) ++ end ≡ (text ++ two_digits byte) ++ end
unfolding encode_with
with_digits text byte end = ap (λ (l : List ℕ). l ++ end) (append_assoc text (get_or (two_digits byte) 0 0 ∷ []) (get_or (two_digits byte) 1 0 ∷ []))
