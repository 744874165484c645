-- How large a number of so many digits can be.
use Rattle.std.proofs.Common.{ℕ, ◌<◌, ◌≤◌, ◌^◌, arith}
use Rattle.std.proofs.Math.Nat.{pow-le-pow_right}

-- a number of at most 18 digits
pub below_power : (value count : ℕ) → value < 10 ^ count → count < 19 → value < 1000000000000000000
below_power value count small few =
    let ten : 0 < 10 = omega arith in
    let within : count ≤ 18 = omega arith in
    let top : 10 ^ count ≤ 10 ^ 18 = pow-le-pow_right {n = 10} ten {i = count} {j = 18} within in
    omega (arith, top)
