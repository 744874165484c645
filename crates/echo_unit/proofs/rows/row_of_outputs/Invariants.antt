use Rattle.std.proofs.Common.{◌≡◌, ◌<◌, ◌≤◌, ℕ, length}
use Rattle.num_fix.specs.SignedWords.{number_at}
use Rattle.echo_unit.specs.Echo.{at_volume, side_output}
use Rattle.echo_unit.proofs.rows.row_of_outputs.Given as goal

abbrev pub invariant-loop-j : goal.invariant-loop-j
invariant-loop-j l = record {
  done : (i : ℕ) → i < l.j → number_at l.outputs i ≡ side_output (number_at l.main i) l.main_volume (number_at l.echo i) l.echo_volume;
  rest : (i : ℕ) → l.j ≤ i → i < 64 → number_at l.outputs i ≡ at_volume (number_at l.main i) l.main_volume;
  long : length l.outputs ≡ 64;
}
