use Rattle.std.proofs.Common.{ℕ, sym, ◌∙◌, ap, arith}
use Rattle.echo_unit.specs.Echo.{EchoState}
use Rattle.echo_unit.specs.Cells.{after_cells}
use Rattle.echo_unit.proofs.Neighbours.{after_cells-add}
use Rattle.echo_unit.proofs.echo.Echo.write_cells.Goals as goal

pub cells-preserved : goal.cells-preserved
cells-preserved c =
    let j : ℕ = c.cells.j in
    let cells : ℕ = c.neighbours-cells.result in
    record {
      at = c.skip.ensures ∙ ap (λ (s : EchoState). after_cells s c.args.regs.now.edl cells) c.cells.invariant.at ∙ sym (after_cells-add c.args.self.now c.args.regs.now.edl j cells);
      memory = c.write_neighbours.ensures c.args.self.now c.args.memory.now c.cells.invariant.at c.cells.invariant.memory;
      within = omega (arith, c.neighbours-cells.ensures.few, c.cells-test.true);
    }
