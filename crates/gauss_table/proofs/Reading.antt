-- Numbers that were read one by one, each from its two bytes, are the numbers that the bytes read as.
use Rattle.std.proofs.Common.{◌≡◌, ℕ, suc, ◌+◌, ◌*◌, List, [], ◌∷◌, length, drop, ℤ, pos, Ok, refl, ap, arith, ◌∙◌}
use Rattle.std.specs.Int.{w16, cast_signed}
use Rattle.num_fix.specs.SignedWords.{signed_word, signed_words}
use Rattle.gauss_table.specs.Weights.{table_length, weights_in}
use Rattle.byteorder.specs.Endian.{little_number, IsReadBy}

-- the number that the first two bytes read as
abbrev word_value : List ℕ → ℤ
word_value bytes = cast_signed w16 (little_number 2 bytes)

pub read_words : (bytes : List ℕ) (words : List ℤ) → length bytes ≡ 2 * length words → IsReadBy word_value 2 bytes words → words ≡ signed_words bytes
read_words [] [] e h = refl
read_words [] (w ∷ words) e h = absurd (omega arith)
read_words (a ∷ []) [] e h = absurd (omega arith)
read_words (a ∷ []) (w ∷ words) e h = absurd (omega arith)
read_words (a ∷ b ∷ bytes) [] e h = absurd (omega arith)
read_words (a ∷ b ∷ bytes) (w ∷ words) e h =
    let first : w ≡ word_value (drop (2 * 0) (a ∷ b ∷ bytes)) = h (pos 0) 0 (omega arith) in
    let number : a + 256 * (b + 256 * 0) ≡ a + 256 * b = omega arith in
    let same : w ≡ signed_word a b = first ∙ ap (λ (n : ℕ). cast_signed w16 n) number in
    let rest : IsReadBy word_value 2 bytes words =
    λ d k within. (let next : 2 * suc k ≡ suc (suc (2 * k)) = omega arith in rw next at (h d (suc k) (omega arith))) in
    rw (same, read_words bytes words (omega arith) rest) refl

-- bytes of the right length are a table of the numbers that they read as
pub weights_of_words : (bytes : List ℕ) (words : List ℤ) → length bytes ≡ table_length → words ≡ signed_words bytes → weights_in bytes ≡ Ok words
weights_of_words bytes words sized same = rw (sized, same) refl
