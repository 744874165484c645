use Rattle.std.proofs.Common.{◌≡◌, ◌≤◌, ◌-◌}
use Rattle.echo_unit.specs.EchoOverBatch.{pair_of}
use Rattle.echo_unit.specs.Cells.{after_cells, with_cells}
use Rattle.echo_unit.proofs.echo.Echo.write_cells.Given as goal

abbrev pub invariant-cells : goal.invariant-cells
invariant-cells l = record {
  at : l.at ≡ after_cells l.self l.regs.edl l.j;
  memory : l.memory ≡ with_cells l.self l.regs (pair_of l.left l.right) l.initial.memory l.j;
  within : l.j ≤ l.n;
}

abbrev pub decreases-cells : goal.decreases-cells
decreases-cells l = l.n - l.j
