use Rattle.std.proofs.Common.{◌≡◌, ◌<◌, ◌≤◌, ◌+◌, ℕ, ◌+ℤ◌, ◌*ℤ◌, length}
use Rattle.num_fix.specs.Arithmetic.{wrap16}
use Rattle.num_fix.specs.SignedWords.{number_at}
use Rattle.echo_unit.proofs.parts.add_whole.Given as goal

abbrev pub invariant-loop-j : goal.invariant-loop-j
invariant-loop-j l = record {
  added : (i : ℕ) → i < l.j → number_at l.sums i ≡ wrap16 (number_at l.initial.sums i +ℤ number_at l.row (l.place + i) *ℤ l.whole);
  rest : (i : ℕ) → l.j ≤ i → number_at l.sums i ≡ number_at l.initial.sums i;
  long : length l.sums ≡ 64;
}
