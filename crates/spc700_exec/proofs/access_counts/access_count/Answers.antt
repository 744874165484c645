use Rattle.std.proofs.Common.{arith}
use Rattle.spc700_exec.proofs.Counts.{count_at}
use Rattle.spc700_exec.proofs.access_counts.access_count.Goals as goal

pub returns : goal.returns
returns c = count_at _ c.args.op (omega arith)
