use Rattle.std.proofs.Common.{arith}
use Rattle.spc700_exec.proofs.EveryRow.{IsRow-row_of}
use Rattle.spc700_exec.proofs.execute.fitting_row.Goals as goal

pub returns-clause-fits : goal.returns-clause-fits
returns-clause-fits c = IsRow-row_of _ c.args.op c.row.ensures (omega arith)
