-- The weights of a table as factors of 16 bits, where each is a fraction.
use Rattle.std.specs.Prelude.{◌≡◌, ℕ, ◌+◌, ◌-◌, ◌<◌, List, ℤ, pos, ◌*ℤ◌, ◌≤ℤ◌, ◌<ℤ◌, Some, length, slice_get}
use Rattle.num_fix.specs.Arithmetic.{wrap16}
use Rattle.num_fix.specs.SignedWords.{number_at}
use Rattle.gauss_table.specs.declared.factors.Factors.{Factors}

-- a weight from 0 to below 1, which is 2,048 of its 2,048ths
pub record IsFraction (weight : ℤ) : Type 0 where
  pub least : pos 0 ≤ℤ weight
  pub below : weight <ℤ pos 2048

-- a weight in 65,536ths, at 16 bits: from half a whole on it wraps
abbrev pub factor_of : (weight : ℤ) → ℤ
factor_of weight = wrap16 (weight *ℤ pos 32)

-- each weight of a table is a fraction
abbrev pub AreFractions : (table : List ℤ) → Type 0
AreFractions table = (i : ℕ) → i < 512 → IsFraction (number_at table i)

-- the factors of the four samples, oldest first, at place i of 256
abbrev pub factors_at : List ℤ → (i : ℕ) → Factors
factors_at table i = record {
  oldest = factor_of (number_at table (255 - i));
  older = factor_of (number_at table (511 - i));
  newer = factor_of (number_at table (256 + i));
  newest = factor_of (number_at table i);
}

-- a table of fractions, with the factors of each of its places
pub record AreFactors (table : List ℤ) (factors : List Factors) : Type 0 where
  pub fractions : AreFractions table
  pub factors_long : length factors ≡ 256
  pub each : (i : ℕ) → i < 256 → slice_get factors i ≡ Some (factors_at table i)
