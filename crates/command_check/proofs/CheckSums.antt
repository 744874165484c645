-- The sums of a check fit into 64 bits.
use Rattle.std.proofs.Common.{◌≡◌, ◌+◌, ◌<◌, ◌≤◌, ◌^◌, ℤ, ◌+ℤ◌, unsigned_abs, FitsSigned, arith, ◌∙◌, to_z, of_z}
use Rattle.std.specs.Int.{w16, w64}
use Rattle.std.proofs.lemmas.Int.{ints}
use Rattle.num_fix.proofs.Bounds.{abs_fits_16, read_back}

sum_bound : (a b : ℤ) → unsigned_abs (a +ℤ b) ≤ unsigned_abs a + unsigned_abs b
sum_bound a b = omega (arith, ints)

-- what the code computes in 64 bits of a sum and a side
pub side_added : (sum side a : ℤ) → unsigned_abs sum < 2 ^ 40 → FitsSigned w16 side → a ≡ side → to_z w64 (of_z w64 (to_z w64 (of_z w64 sum) +ℤ to_z w64 (of_z w64 a))) ≡ sum +ℤ side
side_added sum side a small fits is =
    let bound = abs_fits_16 side fits in
    let both = sum_bound sum side in
    (λ i. to_z w64 (of_z w64 (read_back sum (omega arith) i +ℤ to_z w64 (of_z w64 (is i)))))
    ∙ (λ i. to_z w64 (of_z w64 (sum +ℤ read_back side (omega arith) i)))
    ∙ read_back (sum +ℤ side) (omega arith)
