use Rattle.std.proofs.Common.{◌≡◌, ◌<◌, ℕ}
use Rattle.num_fix.specs.Arithmetic.{clamp16}
use Rattle.num_fix.specs.SignedWords.{number_at}
use Rattle.batch_rows.proofs.sums.are_limited.Given as goal

abbrev pub invariant-loop-j : goal.invariant-loop-j
invariant-loop-j l = record { limited : (i : ℕ) → i < l.j → clamp16 (number_at l.sums i) ≡ number_at l.sums i }
