-- A quotient that is a byte.
use Rattle.std.proofs.Common.{◌≡◌, ℕ, ◌*◌, ◌/◌, ◌%◌, ◌<◌, true, arith}
use Rattle.std.proofs.lemmas.Bool.Decides.{nat_tests}
use Rattle.std.proofs.lemmas.Nat.{div_below}
use Rattle.spc700_alu.specs.WordArithmetic.{quotient_fits_nine_bits}

pub exact : (ya x : ℕ) → ya < 0x100 * x → quotient_fits_nine_bits ya x ≡ true
exact ya x fits =
    let below : ya / 0x100 < 2 * x = omega arith in
    grind (arith, nat_tests)

small_rest : (q : ℕ) → q < 0x100 → q % 0x100 ≡ q
small_rest q small = omega arith

pub quotient_small : (ya x : ℕ) → ya < 0x100 * x → ya / x % 0x100 ≡ ya / x
quotient_small ya x fits = small_rest (ya / x) (div_below ya x 0x100 (omega arith) fits)
