use Rattle.std.proofs.Common.{◌≡◌, length, map, take}
use Rattle.echo_unit.proofs.rows.put_history.Given as goal

abbrev pub invariant-loop-i : goal.invariant-loop-i
invariant-loop-i l = record {
  left : take l.i l.left ≡ map (λ pair. pair.left) (take l.i l.history);
  right : take l.i l.right ≡ map (λ pair. pair.right) (take l.i l.history);
  long_left : length l.left ≡ 72;
  long_right : length l.right ≡ 72;
}
