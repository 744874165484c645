use Rattle.std.proofs.Common.{◌≡◌, ◌<◌, ◌≤◌, ◌+◌, ℕ, ◌+ℤ◌, length}
use Rattle.num_fix.specs.Arithmetic.{scaled, wrap16}
use Rattle.num_fix.specs.SignedWords.{number_at}
use Rattle.echo_unit.proofs.parts.add_part.Given as goal

abbrev pub invariant-loop-j : goal.invariant-loop-j
invariant-loop-j l = record {
  added : (i : ℕ) → i < l.j → number_at l.sums i ≡ wrap16 (number_at l.initial.sums i +ℤ scaled (number_at l.row (l.place + i)) l.part 16);
  rest : (i : ℕ) → l.j ≤ i → number_at l.sums i ≡ number_at l.initial.sums i;
  long : length l.sums ≡ 64;
}
