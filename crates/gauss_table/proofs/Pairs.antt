-- Three numbers of 16 bits summed as the halves of two of 32.
use Rattle.std.proofs.Common.{◌≡◌, ◌+◌, ◌*◌, ◌/◌, ◌%◌, ◌<◌, ℕ, ℤ, ◌+ℤ◌, to_z, ap, ◌∙◌, arith}
use Rattle.std.specs.Int.{w16, int_wrap}
use Rattle.std.proofs.lemmas.Int.{int_wrap-add_left, wrapping_add-bits}
use Rattle.num_fix.specs.Arithmetic.{wrap16}

-- the low half of the sum of a pair, its high half and another pair
pub low-of_pairs : (a b c d : ℕ) → a < 65536 → b < 65536 → c < 65536 → d < 65536
    → ((a + 65536 * b + (a + 65536 * b) / 65536) % 4294967296 + (c + 65536 * d)) % 4294967296 % 65536 ≡ ((a + b) % 65536 + c) % 65536
low-of_pairs a b c d ha hb hc hd = omega arith

-- the high half of a pair
pub high-of_pair : (c d : ℕ) → c < 65536 → (c + 65536 * d) / 65536 ≡ d
high-of_pair c d hc = omega arith

-- the sum of three numbers by their bits
pub sum-of_bits : (a b c : ℕ) → a < 65536 → b < 65536 → c < 65536
    → to_z w16 (((a + b) % 65536 + c) % 65536) ≡ wrap16 (to_z w16 a +ℤ to_z w16 b +ℤ to_z w16 c)
unfolding wrap16 int_wrap
sum-of_bits a b c ha hb hc =
    wrapping_add-bits w16 ((a + b) % 65536) c (omega arith) hc
    ∙ ap (λ (s : ℤ). int_wrap w16 (s +ℤ to_z w16 c)) (wrapping_add-bits w16 a b ha hb)
    ∙ int_wrap-add_left w16 (to_z w16 a +ℤ to_z w16 b) (to_z w16 c)
