use Rattle.std.proofs.Common.{◌≡◌, ℕ, zero, suc, get_or, refl, arith}
use Rattle.std.specs.Prelude.{replicate}
use Rattle.tests_sounds.proofs.voices.rows_with_a_key_on.Goals as goal

zeros : (n j : ℕ) → ◌≡◌ {A = ℕ} (get_or (replicate n 0) j 0) 0
zeros zero j = refl
zeros (suc n) zero = refl
zeros (suc n) (suc j) = zeros n j

pub returns : goal.returns
returns c j = rw (c.new.ensures.noise, zeros 64 j) (omega arith)
