-- Two targets more of a block.
use Rattle.std.proofs.Common.{◌≡◌, ℕ, ◌+◌, ◌*◌, ◌≤◌, ℤ, pos, List, [], ◌∷◌, ◌++◌, length, take, drop, get_or, refl, ap, ◌∙◌, sym, arith, append_assoc}
use Rattle.brr_encode.specs.Greedy.{nearest_digit, greedy_digits}
use Rattle.brr_encode.specs.Encoding.{digit_bits, digit_bytes}
use Rattle.brr_encode.specs.EncoderParts.{after_target, after_targets}
use Rattle.brr_encode.specs.declared.block.Coder.{Coder}

-- the first two of a list
pub two_and_rest : (rest pair tail : List ℤ) → pair ≡ take 2 rest → tail ≡ drop 2 rest → 2 ≤ length rest
    → rest ≡ get_or pair 0 (pos 0) ∷ get_or pair 1 (pos 0) ∷ tail
two_and_rest [] pair tail p t h = absurd (omega arith)
two_and_rest (x ∷ []) pair tail p t h = absurd (omega arith)
two_and_rest (x ∷ y ∷ rest) pair tail p t h = rw (p, t) refl

-- the byte of two digits, and the bytes after it
pub bytes_next : (h : ℕ) (items : List ℕ) (byte : ℕ) (high low : ℤ) (coder first second : Coder) (a b : ℤ) (rest tail : List ℤ)
    → rest ≡ a ∷ b ∷ tail
    → high ≡ nearest_digit h a coder.last coder.before → first ≡ after_target h coder a
    → low ≡ nearest_digit h b first.last first.before → second ≡ after_target h first b
    → byte ≡ digit_bits high * 0x10 + digit_bits low
    → (items ++ byte ∷ []) ++ digit_bytes (greedy_digits h second.last second.before tail) ≡ items ++ digit_bytes (greedy_digits h coder.last coder.before rest)
bytes_next h items byte high low coder first second a b rest tail rest_is high_is first_is low_is second_is byte_is =
    rw (rest_is, second_is, byte_is, low_is, high_is, first_is) (append_assoc items _ _)

pub coder_next : (h : ℕ) (coder first second : Coder) (a b : ℤ) (rest tail : List ℤ) (done : Coder)
    → rest ≡ a ∷ b ∷ tail → first ≡ after_target h coder a → second ≡ after_target h first b → after_targets h coder rest ≡ done
    → after_targets h second tail ≡ done
coder_next h coder first second a b rest tail done rest_is first_is second_is whole =
    ap (λ (c : Coder). after_targets h c tail) (second_is ∙ ap (λ (c : Coder). after_target h c b) first_is)
    ∙ ap (λ (l : List ℤ). after_targets h coder l) (sym rest_is) ∙ whole
