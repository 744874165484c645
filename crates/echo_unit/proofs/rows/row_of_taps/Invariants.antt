use Rattle.std.proofs.Common.{◌≡◌, ◌<◌, ◌+◌, ℕ, take}
use Rattle.num_fix.specs.Arithmetic.{wrap16}
use Rattle.num_fix.specs.SignedWords.{number_at}
use Rattle.echo_unit.specs.Fir.{signed_sum, taps, eight_from}
use Rattle.echo_unit.proofs.rows.row_of_taps.Given as goal

abbrev pub invariant-loop-i : goal.invariant-loop-i
invariant-loop-i l = (j : ℕ) → j < 64 → number_at l.sums j ≡ wrap16 (signed_sum (take l.i (taps (eight_from l.row (j + 1)) l.coefficients)))
