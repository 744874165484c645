use Rattle.std.proofs.Common.{◌≡◌, ◌<◌, ◌≤◌, ℕ, ◌+ℤ◌, length}
use Rattle.num_fix.specs.Arithmetic.{clamp16, scaled}
use Rattle.num_fix.specs.SignedWords.{number_at}
use Rattle.batch_rows.proofs.sums.add_row_at_small_volume.Given as goal

abbrev pub invariant-loop-j : goal.invariant-loop-j
invariant-loop-j l = record {
  added : (i : ℕ) → i < l.j → number_at l.sums i ≡ clamp16 (number_at l.initial.sums i +ℤ scaled (number_at l.outs i) l.volume 7);
  rest : (i : ℕ) → l.j ≤ i → number_at l.sums i ≡ number_at l.initial.sums i;
  long : length l.sums ≡ 64;
}
