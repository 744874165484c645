use Rattle.std.proofs.Common.{◌≡◌, ◌≤◌, ◌+◌, ◌-◌, map, take}
use Rattle.echo_unit.specs.Cells.{after_cells, pairs_read}
use Rattle.echo_unit.proofs.echo.Echo.read_cells.Given as goal

abbrev pub invariant-cells : goal.invariant-cells
invariant-cells l = record {
  at : l.at ≡ after_cells l.self l.regs.edl l.j;
  left : take (8 + l.j) l.left ≡ map (λ pair. pair.left) (pairs_read l.self l.regs l.memory l.j);
  right : take (8 + l.j) l.right ≡ map (λ pair. pair.right) (pairs_read l.self l.regs l.memory l.j);
  within : l.j ≤ l.n;
}

abbrev pub decreases-cells : goal.decreases-cells
decreases-cells l = l.n - l.j
