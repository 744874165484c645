use Rattle.std.proofs.Common.{ℕ, ◌+◌, ◌-◌, ◌%◌, arith}
use Rattle.batch_rows.proofs.CellLine.{line_misses}
use Rattle.batch_rows.proofs.cells.cells_before.Goals as goal

pub returns-clause-miss : goal.returns-clause-miss
returns-clause-miss c =
    let behind : ℕ = (c.args.first + (0x10000 - c.args.start)) % 0x10000 in
    let ahead : ℕ = (c.args.start + (0x10000 - c.args.first)) % 0x10000 in
    line_misses c.args.first c.args.start c.args.count c.min.result behind ahead
    (omega arith) (omega arith) (omega arith) (omega arith) (omega arith) (omega arith) c.if-first-start.false (omega arith)
