use Rattle.std.proofs.Common.{◌≡◌, ℕ, ◌+◌, ◌%◌, ◌==◌, ◌<◌, false, get_or, length}
use Rattle.batch_rows.proofs.keys.polls_from.Given as goal

abbrev pub invariant-loop-j : goal.invariant-loop-j
invariant-loop-j l = record {
  polls : (i : ℕ) → i < l.j → get_or l.polls i false ≡ ((l.number + i) % 2 == 0);
  long : length l.polls ≡ 64;
}
