-- How large a shifted number and a scaled product get.
use Rattle.std.proofs.Common.{◌≡◌, ℕ, ◌+◌, ◌-◌, ◌*◌, ◌/◌, ◌^◌, ◌<◌, ◌≤◌, ℤ, pos, negsuc, ◌*ℤ◌, unsigned_abs, FitsSigned, to_z, of_z, arith, sym, ap, ◌∙◌}
use Rattle.std.specs.Int.{w16, w64}
use Rattle.std.proofs.lemmas.Int.{unsigned_abs-mul, to_z-of_z, fits_signed_from_abs, ints}
use Rattle.std.proofs.lemmas.Nat.{mul-le, div_below, pow_pos, pow-add}
use Rattle.num_fix.specs.Arithmetic.{floor_shift, scaled}

-- a number of absolute value m * k at most, divided by k and rounded down, has absolute value m at most
quotient_bound : (z : ℤ) (k m : ℕ) → 0 < k → unsigned_abs z ≤ m * k → unsigned_abs (Rattle.std.specs.Int.Signed.shr_z z k) ≤ m
quotient_bound (pos x) k m k_pos h = let below : x < (m + 1) * k = omega arith in let q : x / k < m + 1 = div_below x k (m + 1) k_pos below in omega arith
quotient_bound (negsuc x) k m k_pos h = let below : x < m * k = omega arith in div_below x k m k_pos below

pub floor_shift_bound : (z : ℤ) (n m : ℕ) → unsigned_abs z ≤ m * 2 ^ n → unsigned_abs (floor_shift z n) ≤ m
unfolding floor_shift
floor_shift_bound z n m h = quotient_bound z (2 ^ n) m (pow_pos n) h

-- a number of 16 bits with a sign
pub abs_fits_16 : (z : ℤ) → FitsSigned w16 z → unsigned_abs z ≤ 32768
abs_fits_16 z h = omega (arith, ints)

-- a number whose absolute value is below 2 ^ 62 is read as itself from 64 bits
pub read_back : (z : ℤ) → unsigned_abs z < 2 ^ 62 → to_z w64 (of_z w64 z) ≡ z
read_back z h = to_z-of_z w64 z (fits_signed_from_abs w64 z (omega arith))

-- the product of two 16-bit numbers, shifted right by n
pub scaled_bound : (a b : ℤ) (n : ℕ) → FitsSigned w16 a → FitsSigned w16 b → n < 31 → unsigned_abs (scaled a b n) ≤ 2 ^ (30 - n)
unfolding scaled
scaled_bound a b n fa fb small =
    let product : unsigned_abs a * unsigned_abs b ≤ 32768 * 32768 = mul-le _ _ _ _ (abs_fits_16 a fa) (abs_fits_16 b fb) in
    let whole : (30 - n) + n ≡ 30 = omega arith in
    let powers : 2 ^ (30 - n) * 2 ^ n ≡ 1073741824 = sym (pow-add 2 (30 - n) n) ∙ ap (λ (k : ℕ). 2 ^ k) whole in
    floor_shift_bound (a *ℤ b) n (2 ^ (30 - n)) (rw unsigned_abs-mul (omega (arith, product, powers)))

-- a product of numbers of absolute value x and y at most, shifted right by n
pub scaled_at_most : (a b : ℤ) (n x y m : ℕ) → unsigned_abs a ≤ x → unsigned_abs b ≤ y → x * y ≤ m * 2 ^ n → unsigned_abs (scaled a b n) ≤ m
unfolding scaled
scaled_at_most a b n x y m ha hb h =
    let product : unsigned_abs a * unsigned_abs b ≤ x * y = mul-le _ _ _ _ ha hb in
    floor_shift_bound (a *ℤ b) n m (rw unsigned_abs-mul (omega (arith, product, h)))
