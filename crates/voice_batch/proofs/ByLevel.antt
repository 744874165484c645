-- A sample at a level.
use Rattle.std.proofs.Common.{◌≡◌, ◌≤◌, ℕ, ℤ, pos, ap, arith}
use Rattle.std.proofs.lemmas.Int.{ints}
use Rattle.std.proofs.Math.IntN.{*ℤ_comm}
use Rattle.num_fix.specs.Arithmetic.{floor_shift, scaled}
use Rattle.gauss_table.specs.Factors.{IsFraction}

-- a level is a weight below 1
pub level_is_fraction : (level : ℕ) → level ≤ 0x7ff → IsFraction (pos level)
level_is_fraction level most = record { least = omega (arith, ints); below = omega (arith, ints) }

-- either number may scale the other
pub scaled_comm : (x y : ℤ) → scaled x y 11 ≡ scaled y x 11
unfolding scaled
scaled_comm x y = ap (λ (z : ℤ). floor_shift z 11) (*ℤ_comm x y)
