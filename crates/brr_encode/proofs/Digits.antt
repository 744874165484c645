-- The bytes of a block, read as its digits again.
use Rattle.std.proofs.Common.{◌≡◌, ℕ, zero, suc, ◌+◌, ◌*◌, ◌/◌, ◌%◌, ◌<◌, ℤ, List, [], ◌∷◌, ◌++◌, length, drop, get_or, refl, sym, ap, ◌∙◌, subst, arith, lit≤}
use Rattle.num_fix.specs.Arithmetic.{sign4}
use Rattle.brr_decode.specs.Kept.{kept_sample, digits_under, digits_of}
use Rattle.brr_decode.proofs.Samples.{kept_after}
use Rattle.brr_decode.proofs.Blocks.{nine}
use Rattle.brr_encode.specs.Least.{least_place}
use Rattle.brr_encode.specs.Greedy.{digit_at, digit_distance, nearest_digit, nearest_sample, greedy_digits, greedy_samples}
use Rattle.brr_encode.specs.Encoding.{digit_bits, digit_bytes}
use Rattle.brr_encode.proofs.Leasts.{least_place-first}

-- the four bits of each of the sixteen digits
bits-lt : (place : ℕ) → place < 16 → digit_bits (digit_at place) < 16
bits-lt zero h = lit≤ tt
bits-lt (suc zero) h = lit≤ tt
bits-lt (suc (suc zero)) h = lit≤ tt
bits-lt (suc (suc (suc zero))) h = lit≤ tt
bits-lt (suc (suc (suc (suc zero)))) h = lit≤ tt
bits-lt (suc (suc (suc (suc (suc zero))))) h = lit≤ tt
bits-lt (suc (suc (suc (suc (suc (suc zero)))))) h = lit≤ tt
bits-lt (suc (suc (suc (suc (suc (suc (suc zero))))))) h = lit≤ tt
bits-lt (suc (suc (suc (suc (suc (suc (suc (suc zero)))))))) h = lit≤ tt
bits-lt (suc (suc (suc (suc (suc (suc (suc (suc (suc zero))))))))) h = lit≤ tt
bits-lt (suc (suc (suc (suc (suc (suc (suc (suc (suc (suc zero)))))))))) h = lit≤ tt
bits-lt (suc (suc (suc (suc (suc (suc (suc (suc (suc (suc (suc zero))))))))))) h = lit≤ tt
bits-lt (suc (suc (suc (suc (suc (suc (suc (suc (suc (suc (suc (suc zero)))))))))))) h = lit≤ tt
bits-lt (suc (suc (suc (suc (suc (suc (suc (suc (suc (suc (suc (suc (suc zero))))))))))))) h = lit≤ tt
bits-lt (suc (suc (suc (suc (suc (suc (suc (suc (suc (suc (suc (suc (suc (suc zero)))))))))))))) h = lit≤ tt
bits-lt (suc (suc (suc (suc (suc (suc (suc (suc (suc (suc (suc (suc (suc (suc (suc zero))))))))))))))) h = lit≤ tt
bits-lt (suc (suc (suc (suc (suc (suc (suc (suc (suc (suc (suc (suc (suc (suc (suc (suc n)))))))))))))))) h = absurd (omega arith)

-- and the digit that they are read as
read_again : (place : ℕ) → place < 16 → sign4 (digit_bits (digit_at place)) ≡ digit_at place
unfolding sign4
read_again zero h = refl
read_again (suc zero) h = refl
read_again (suc (suc zero)) h = refl
read_again (suc (suc (suc zero))) h = refl
read_again (suc (suc (suc (suc zero)))) h = refl
read_again (suc (suc (suc (suc (suc zero))))) h = refl
read_again (suc (suc (suc (suc (suc (suc zero)))))) h = refl
read_again (suc (suc (suc (suc (suc (suc (suc zero))))))) h = refl
read_again (suc (suc (suc (suc (suc (suc (suc (suc zero)))))))) h = refl
read_again (suc (suc (suc (suc (suc (suc (suc (suc (suc zero))))))))) h = refl
read_again (suc (suc (suc (suc (suc (suc (suc (suc (suc (suc zero)))))))))) h = refl
read_again (suc (suc (suc (suc (suc (suc (suc (suc (suc (suc (suc zero))))))))))) h = refl
read_again (suc (suc (suc (suc (suc (suc (suc (suc (suc (suc (suc (suc zero)))))))))))) h = refl
read_again (suc (suc (suc (suc (suc (suc (suc (suc (suc (suc (suc (suc (suc zero))))))))))))) h = refl
read_again (suc (suc (suc (suc (suc (suc (suc (suc (suc (suc (suc (suc (suc (suc zero)))))))))))))) h = refl
read_again (suc (suc (suc (suc (suc (suc (suc (suc (suc (suc (suc (suc (suc (suc (suc zero))))))))))))))) h = refl
read_again (suc (suc (suc (suc (suc (suc (suc (suc (suc (suc (suc (suc (suc (suc (suc (suc n)))))))))))))))) h = absurd (omega arith)

-- the low digit of a byte
sign4-low : (high low : ℕ) → sign4 (high * 0x10 + low) ≡ sign4 low
unfolding sign4
sign4-low high low = let same : (high * 16 + low) % 16 ≡ low % 16 = omega arith in rw same refl

high_digit : (p q : ℕ) → p < 16 → q < 16 → sign4 ((digit_bits (digit_at p) * 0x10 + digit_bits (digit_at q)) / 0x10) ≡ digit_at p
high_digit p q hp hq =
    let bound : digit_bits (digit_at q) < 16 = bits-lt q hq in
    let high : (digit_bits (digit_at p) * 16 + digit_bits (digit_at q)) / 16 ≡ digit_bits (digit_at p) = omega (arith, bound) in
    ap sign4 high ∙ read_again p hp

low_digit : (p q : ℕ) → q < 16 → sign4 (digit_bits (digit_at p) * 0x10 + digit_bits (digit_at q)) ≡ digit_at q
low_digit p q hq = sign4-low (digit_bits (digit_at p)) (digit_bits (digit_at q)) ∙ read_again q hq

-- the place of a digit that was chosen
place_of : (h : ℕ) (t p1 p2 : ℤ) → ℕ
place_of h t p1 p2 = least_place (digit_distance h t p1 p2) 16

place_of-lt : (h : ℕ) (t p1 p2 : ℤ) → place_of h t p1 p2 < 16
unfolding place_of
place_of-lt h t p1 p2 = (least_place-first (digit_distance h t p1 p2) 16 (lit≤ tt)).within

nearest_digit-is : (h : ℕ) (t p1 p2 : ℤ) → nearest_digit h t p1 p2 ≡ digit_at (place_of h t p1 p2)
unfolding place_of nearest_digit
nearest_digit-is h t p1 p2 = refl

-- end bits and loop bit don't reach shift and filter
kept_sample-flagged : (h e : ℕ) (d p1 p2 : ℤ) → h % 4 ≡ 0 → e < 4 → kept_sample (h + e) d p1 p2 ≡ kept_sample h d p1 p2
unfolding kept_sample
kept_sample-flagged h e d p1 p2 whole few =
    let shift : (h + e) / 16 ≡ h / 16 = omega arith in
    let filter : (h + e) / 4 % 4 ≡ h / 4 % 4 = omega arith in
    rw (shift, filter) refl

-- two digits of a byte, decoded
decoded_high : (h e : ℕ) (a p1 p2 b q1 q2 : ℤ) → h % 4 ≡ 0 → e < 4
    → kept_sample (h + e) (sign4 ((digit_bits (nearest_digit h a p1 p2) * 0x10 + digit_bits (nearest_digit h b q1 q2)) / 0x10)) p1 p2 ≡ nearest_sample h a p1 p2
unfolding nearest_sample
decoded_high h e a p1 p2 b q1 q2 whole few =
    let digit : sign4 ((digit_bits (nearest_digit h a p1 p2) * 0x10 + digit_bits (nearest_digit h b q1 q2)) / 0x10) ≡ nearest_digit h a p1 p2 =
    rw (nearest_digit-is h a p1 p2, nearest_digit-is h b q1 q2) (high_digit _ _ (place_of-lt h a p1 p2) (place_of-lt h b q1 q2)) in
    rw digit (kept_sample-flagged h e (nearest_digit h a p1 p2) p1 p2 whole few)

decoded_low : (h e : ℕ) (a p1 p2 b q1 q2 : ℤ) → h % 4 ≡ 0 → e < 4
    → kept_sample (h + e) (sign4 (digit_bits (nearest_digit h a p1 p2) * 0x10 + digit_bits (nearest_digit h b q1 q2))) q1 q2 ≡ nearest_sample h b q1 q2
unfolding nearest_sample
decoded_low h e a p1 p2 b q1 q2 whole few =
    let digit : sign4 (digit_bits (nearest_digit h a p1 p2) * 0x10 + digit_bits (nearest_digit h b q1 q2)) ≡ nearest_digit h b q1 q2 =
    rw (nearest_digit-is h a p1 p2, nearest_digit-is h b q1 q2) (low_digit _ _ (place_of-lt h b q1 q2)) in
    rw digit (kept_sample-flagged h e (nearest_digit h b q1 q2) q1 q2 whole few)

-- the digits of an even number of targets, decoded under their header with end and loop bits
pub decoded_digits : (h e : ℕ) (p1 p2 : ℤ) (targets : List ℤ) → h % 4 ≡ 0 → e < 4 → length targets % 2 ≡ 0
    → kept_after (digits_under (h + e) (digit_bytes (greedy_digits h p1 p2 targets))) p1 p2 ≡ greedy_samples h p1 p2 targets
decoded_digits h e p1 p2 [] whole few even = refl
decoded_digits h e p1 p2 (a ∷ []) whole few even = absurd (omega arith)
decoded_digits h e p1 p2 (a ∷ b ∷ targets) whole few even =
    let kept = nearest_sample h a p1 p2 in
    let next = nearest_sample h b kept p1 in
    rw (decoded_high h e a p1 p2 b kept p1 whole few, decoded_low h e a p1 p2 b kept p1 whole few)
    (ap (λ (l : List ℤ). kept ∷ next ∷ l) (decoded_digits h e next kept targets whole few (omega arith)))

-- the digits of nine bytes and those after them
pub digits_of-block : (block rest : List ℕ) → length block ≡ 9 → digits_of (block ++ rest) ≡ digits_under (get_or block 0 0) (drop 1 block) ++ digits_of rest
digits_of-block block rest sized = subst (λ (b : List ℕ). digits_of (b ++ rest) ≡ digits_under (get_or b 0 0) (drop 1 b) ++ digits_of rest) (sym (nine block sized)) refl
