-- The bend of a pitch by the double of the pitch: a product of 16-bit numbers.
use Rattle.std.proofs.Common.{◌≡◌, ◌*◌, ℤ, pos, negsuc, ◌*ℤ◌, ◌≤ℤ◌, FitsSigned, sym, ap, ◌∙◌, arith}
use Rattle.std.specs.Int.{w16}
use Rattle.std.proofs.lemmas.Int.{ints}
use Rattle.num_fix.specs.Arithmetic.{floor_shift, scaled}
use Rattle.num_fix.proofs.Quotients.{product_times, rest_of, rest_of-small, shift_and_rest, shift_is}

-- 32 times a number, by the double of a pitch
pub bend_by_double : (part pitch : ℤ) → scaled (part *ℤ pos 32) (pitch *ℤ pos 2) 16 ≡ scaled part pitch 10
unfolding scaled
bend_by_double part pitch =
    let p : ℤ = part *ℤ pitch in
    let factors : pos 32 *ℤ (pitch *ℤ pos 2) ≡ pitch *ℤ pos 64 = omega (arith, ints) in
    let same : (part *ℤ pos 32) *ℤ (pitch *ℤ pos 2) ≡ p *ℤ pos 64 =
    product_times part (pos 32) (pitch *ℤ pos 2) ∙ ap (λ (z : ℤ). part *ℤ z) factors ∙ sym (product_times part pitch (pos 64)) in
    shift_is 16 _ (floor_shift p 10) (64 * rest_of p 10) (omega (arith, rest_of-small p 10)) (same ∙ omega (arith, ints, shift_and_rest p 10))

-- 32 times a 32nd of a number of 16 bits has 16 bits
pub fits_times_32 : (z : ℤ) → negsuc 1023 ≤ℤ z → z ≤ℤ pos 1023 → FitsSigned w16 (z *ℤ pos 32)
fits_times_32 (pos n) low high = record { sfits = omega (arith, ints, high) }
fits_times_32 (negsuc n) low high = record { sfits = omega (arith, ints, low) }
