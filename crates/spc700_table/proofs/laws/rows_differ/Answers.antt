use Rattle.spc700_table.proofs.Distinct.{rows_differ}
use Rattle.spc700_table.proofs.laws.rows_differ.Goals as goal

pub returns : goal.returns
returns c = rows_differ
