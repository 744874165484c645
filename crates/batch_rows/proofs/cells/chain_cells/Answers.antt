use Rattle.batch_rows.specs.CellLine.{line_from}
use Rattle.batch_rows.proofs.CellLine.{chain_is_missed}
use Rattle.batch_rows.proofs.cells.chain_cells.Goals as goal

pub returns-then-again-cells-clause-miss : goal.returns-then-again-cells-clause-miss
returns-then-again-cells-clause-miss c =
    chain_is_missed (line_from c.args.first) c.args.memory.now c.args.cells c.args.chain c.requires
    (rw c.if-start-cells.true at c.cells_before-start.ensures.miss) (rw c.if-again-cells.true at c.cells_before-again.ensures.miss)
