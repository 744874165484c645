use Rattle.std.proofs.Common.{◌≡◌, ◌<◌, ◌+◌, ℕ, length}
use Rattle.num_fix.specs.SignedWords.{number_at}
use Rattle.echo_unit.specs.Fir.{filtered_sample, eight_from}
use Rattle.echo_unit.proofs.rows.filtered_row.Given as goal

abbrev pub invariant-loop-j : goal.invariant-loop-j
invariant-loop-j l = record {
  done : (i : ℕ) → i < l.j → number_at l.heard i ≡ filtered_sample (eight_from l.row (i + 1)) l.coefficients;
  long : length l.heard ≡ 64;
}
