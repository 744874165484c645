use Rattle.spc700_table.proofs.Distinct.{in_range}
use Rattle.spc700_table.proofs.laws.bits_and_entries_are_in_range.Goals as goal

pub returns : goal.returns
returns c = in_range
