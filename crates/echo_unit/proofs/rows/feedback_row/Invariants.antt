use Rattle.std.proofs.Common.{◌≡◌, ◌<◌, ◌≤◌, ℕ, length}
use Rattle.num_fix.specs.SignedWords.{number_at}
use Rattle.echo_unit.specs.Echo.{at_volume, feedback_word}
use Rattle.echo_unit.proofs.rows.feedback_row.Given as goal

abbrev pub invariant-loop-j : goal.invariant-loop-j
invariant-loop-j l = record {
  done : (i : ℕ) → i < l.j → number_at l.words i ≡ feedback_word (number_at l.sent i) (number_at l.heard i) l.efb;
  rest : (i : ℕ) → l.j ≤ i → i < 64 → number_at l.words i ≡ at_volume (number_at l.heard i) l.efb;
  long : length l.words ≡ 64;
}
