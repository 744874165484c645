use Rattle.std.proofs.Common.{arith}
use Rattle.batch_rows.specs.CellLine.{line_from}
use Rattle.batch_rows.proofs.CellLine.{line_is}
use Rattle.batch_rows.proofs.InReach.{bytes_keep_apart}
use Rattle.batch_rows.proofs.cells.samples_apart.Goals as goal

pub returns-clause-same : goal.returns-clause-same
returns-clause-same c k valid =
    bytes_keep_apart (line_from c.cell.result) c.voices_cells.result k c.args.state.now c.args.memory.now
    (line_is c.args.state.now c.cell.result c.voices_cells.result c.cells_in_line-cells.result c.cell.ensures c.cells_in_line-cells.ensures.line c.voices_cells.ensures.few)
    (omega arith) valid c.voices_cells.ensures.miss
