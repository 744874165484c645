-- The place of the first one that passes a test, by how many before it fail.
use Rattle.std.proofs.Common.{◌≡◌, ℕ, ◌<◌, cond, nat_lt, arith}
use Rattle.std.specs.Prelude.{Some, None}
use Rattle.std.proofs.lemmas.Bool.Decides.{nat_tests}

-- one passes
pub place_within : (n i m : ℕ) → n ≡ i → i < m → cond (nat_lt n m) (Some n) None ≡ Some i
place_within n i m is inside = grind (arith, nat_tests)

-- all fail
pub no_place_within : (n m : ℕ) → n ≡ m → cond (nat_lt n m) (Some n) None ≡ None
no_place_within n m is = grind (arith, nat_tests)
