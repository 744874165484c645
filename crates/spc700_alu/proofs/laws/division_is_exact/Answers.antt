use Rattle.std.proofs.Common.{◌≡◌, ℕ, ◌+◌, ◌*◌, ◌/◌, ◌%◌, true, ap}
use Rattle.spc700_alu.specs.WordArithmetic.{div_of, quotient_fits_nine_bits}
use Rattle.spc700_alu.proofs.Division.{exact, quotient_small}
use Rattle.spc700_alu.proofs.laws.division_is_exact.Goals as goal

pub returns : goal.returns
unfolding div_of
returns c = λ ya x psw small fits.
    let is : quotient_fits_nine_bits ya x ≡ true = exact ya x fits in
    let low : ya / x % 0x100 ≡ ya / x = quotient_small ya x fits in
    rw is (ap (λ (a : ℕ). 0x100 * (ya % x) + a) low)
