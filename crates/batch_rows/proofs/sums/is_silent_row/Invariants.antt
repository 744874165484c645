use Rattle.std.proofs.Common.{◌≡◌, ◌<◌, ℕ, pos, true}
use Rattle.num_fix.specs.SignedWords.{number_at}
use Rattle.batch_rows.proofs.sums.is_silent_row.Given as goal

abbrev pub invariant-loop-j : goal.invariant-loop-j
invariant-loop-j l = record { zeros : l.silent ≡ true → (i : ℕ) → i < l.j → number_at l.outs i ≡ pos 0 }
