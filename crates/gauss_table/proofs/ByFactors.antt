-- What a sample gives under a weight that is a fraction, by the weight's factor.
use Rattle.std.proofs.Common.{◌≡◌, ◌≤◌, ◌<◌, ◌≤ℤ◌, ◌<ℤ◌, ◌*◌, ◌-◌, ◌%◌, ℕ, to_z, of_z, ℤ, pos, negsuc, ◌+ℤ◌, ◌-ℤ◌, ◌*ℤ◌, unsigned_abs, FitsSigned, ap, sym, ◌∙◌, ◌⊎◌, inl, inr, arith}
use Rattle.std.specs.Int.{w16}
use Rattle.std.proofs.lemmas.Bool.{cases_lt}
use Rattle.std.proofs.lemmas.Int.{ints, to_z-of_z, fits_signed_from_abs}
use Rattle.std.proofs.Math.IntN.{*ℤ_comm}
use Rattle.num_fix.specs.Arithmetic.{floor_shift, scaled, wrap16}
use Rattle.num_fix.proofs.Bounds.{abs_fits_16, scaled_at_most}
use Rattle.num_fix.proofs.Quotients.{product_times, rest_of, rest_of-small, shift_and_rest, shift_is, times_sum}
use Rattle.gauss_table.specs.Factors.{IsFraction, factor_of}

-- the factor of a weight below half a whole
factor-low : (n : ℕ) → n < 1024 → factor_of (pos n) ≡ pos n *ℤ pos 32
unfolding wrap16
factor-low n small = let word : n * 32 % 65536 < 32768 = omega arith in omega (arith, ints)

-- that of another fraction
factor-high : (n : ℕ) → 1024 ≤ n → n < 2048 → factor_of (pos n) ≡ negsuc (2047 - n) *ℤ pos 32
unfolding wrap16
factor-high n half below =
    let below_0 : ℤ = negsuc (65535 - n * 32) in
    let word : n * 32 % 65536 ≡ of_z w16 below_0 = omega arith in
    ap (to_z w16) word ∙ to_z-of_z w16 below_0 (record { sfits = omega arith }) ∙ omega (arith, ints)

-- a product by the factor of a weight
by_low_factor : (weight sample : ℤ) → scaled sample (weight *ℤ pos 32) 16 ≡ scaled weight sample 11
unfolding scaled
by_low_factor weight sample =
    let p : ℤ = weight *ℤ sample in
    let same : sample *ℤ (weight *ℤ pos 32) ≡ p *ℤ pos 32 = sym (product_times sample weight (pos 32)) ∙ ap (λ (z : ℤ). z *ℤ pos 32) (*ℤ_comm sample weight) in
    shift_is 16 _ (floor_shift p 11) (32 * rest_of p 11) (omega (arith, rest_of-small p 11)) (same ∙ omega (arith, ints, shift_and_rest p 11))

-- a product by the factor of a weight less a whole, and the sample
by_high_factor : (rest sample : ℤ) → scaled sample (rest *ℤ pos 32) 16 +ℤ sample ≡ scaled (rest +ℤ pos 2048) sample 11
unfolding scaled
by_high_factor rest sample =
    let p : ℤ = rest *ℤ sample in
    let q : ℤ = floor_shift p 11 in
    let sum : (rest +ℤ pos 2048) *ℤ sample ≡ p +ℤ sample *ℤ pos 2048 =
    *ℤ_comm (rest +ℤ pos 2048) sample ∙ times_sum sample rest (pos 2048) ∙ ap (λ (z : ℤ). z +ℤ sample *ℤ pos 2048) (*ℤ_comm sample rest) in
    let both : floor_shift ((rest +ℤ pos 2048) *ℤ sample) 11 ≡ q +ℤ sample =
    shift_is 11 _ (q +ℤ sample) (rest_of p 11) (rest_of-small p 11) (sum ∙ omega (arith, ints, shift_and_rest p 11)) in
    ap (λ (z : ℤ). z +ℤ sample) (by_low_factor rest sample) ∙ sym both

-- a fraction is a weight below half a whole, whose factor isn't negative, or one from there on, whose factor is
fraction-parts : (weight factor : ℤ) → IsFraction weight → factor ≡ factor_of weight
    → ((pos 0 ≤ℤ factor) × (factor ≡ weight *ℤ pos 32)) ⊎ ((factor <ℤ pos 0) × (factor ≡ (weight -ℤ pos 2048) *ℤ pos 32))
fraction-parts (negsuc n) factor is by = absurd (omega (arith, ints, is.least))
fraction-parts (pos n) factor is by =
    elim (cases_lt n 1024) [
      | inl small ↦ (let value : factor ≡ pos n *ℤ pos 32 = by ∙ factor-low n small in inl (omega (arith, ints, value), value))
      | inr half ↦ (let below : n < 2048 = omega (arith, ints, is.below) in
          let value : factor ≡ negsuc (2047 - n) *ℤ pos 32 = by ∙ factor-high n half below in
          let rest : negsuc (2047 - n) ≡ pos n -ℤ pos 2048 = omega (arith, ints) in
          inr (omega (arith, ints, value), value ∙ ap (λ (z : ℤ). z *ℤ pos 32) rest))
    ]

-- what a sample gives, by a factor that isn't negative
pub by_factor-low : (weight factor sample : ℤ) → IsFraction weight → factor ≡ factor_of weight → pos 0 ≤ℤ factor → scaled sample factor 16 ≡ scaled weight sample 11
by_factor-low weight factor sample is by low =
    elim (fraction-parts weight factor is by) [ inl (same, value) ↦ rw value (by_low_factor weight sample) | inr (high, value) ↦ absurd (omega (arith, ints, high)) ]

-- and by one that is
pub by_factor-high : (weight factor sample : ℤ) → IsFraction weight → factor ≡ factor_of weight → factor <ℤ pos 0
    → scaled sample factor 16 +ℤ sample ≡ scaled weight sample 11
by_factor-high weight factor sample is by high =
    let back : weight -ℤ pos 2048 +ℤ pos 2048 ≡ weight = omega (arith, ints) in
    elim (fraction-parts weight factor is by) [
      | inl (low, value) ↦ absurd (omega (arith, ints, low))
      | inr (same, value) ↦ rw value (by_high_factor (weight -ℤ pos 2048) sample ∙ ap (λ (w : ℤ). scaled w sample 11) back)
    ]

-- what a sample gives under a fraction has 16 bits
pub fraction-fits : (weight sample : ℤ) → IsFraction weight → FitsSigned w16 sample → FitsSigned w16 (scaled weight sample 11)
fraction-fits weight sample is fits =
    let small : unsigned_abs weight ≤ 2047 = omega (arith, ints, is.least, is.below) in
    let most : unsigned_abs (scaled weight sample 11) ≤ 32752 = scaled_at_most weight sample 11 2047 32768 32752 small (abs_fits_16 sample fits) (omega arith) in
    fits_signed_from_abs w16 (scaled weight sample 11) (omega (arith, most))

-- the factor of a weight isn't negative below half a whole, and is from there on
pub factor-low-sign : (n : ℕ) → n < 1024 → pos 0 ≤ℤ factor_of (pos n)
factor-low-sign n small = omega (arith, ints, factor-low n small)

pub factor-high-sign : (n : ℕ) → 1024 ≤ n → n < 2048 → factor_of (pos n) <ℤ pos 0
factor-high-sign n half below = omega (arith, ints, factor-high n half below)
