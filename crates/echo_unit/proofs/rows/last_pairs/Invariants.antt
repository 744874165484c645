use Rattle.std.proofs.Common.{◌≡◌, ◌<◌, ◌+◌, ℕ, pos, get_or, length}
use Rattle.echo_unit.specs.EchoOverBatch.{pair_of}
use Rattle.echo_unit.proofs.rows.last_pairs.Given as goal

abbrev pub invariant-loop-i : goal.invariant-loop-i
invariant-loop-i l = record {
  done : (k : ℕ) → k < l.i → get_or l.history k (record { left = pos 0; right = pos 0 }) ≡ pair_of l.left l.right (l.n + k);
  long : length l.history ≡ 8;
}
