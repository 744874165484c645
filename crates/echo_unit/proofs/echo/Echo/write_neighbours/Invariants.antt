use Rattle.std.proofs.Common.{◌≡◌, ◌+◌, ℕ, List, length}
use Rattle.aram_core.specs.Memory.{with_page}
use Rattle.echo_unit.specs.Echo.{EchoState}
use Rattle.echo_unit.specs.EchoOverBatch.{pair_of}
use Rattle.echo_unit.specs.Cells.{after_cells, with_cells}
use Rattle.echo_unit.proofs.echo.Echo.write_neighbours.Given as goal

abbrev pub invariant-loop-i : goal.invariant-loop-i
invariant-loop-i l = record {
  memory : (s : EchoState) (first : List ℕ) → l.self ≡ after_cells s l.regs.edl l.before → l.memory ≡ with_cells s l.regs (pair_of l.left l.right) first l.before
      → with_page l.memory l.page l.bytes ≡ with_cells s l.regs (pair_of l.left l.right) first (l.before + l.i);
  long : length l.bytes ≡ 256;
}
