use Rattle.spc700_alu.proofs.DecimalSums.{decimal_sum}
use Rattle.spc700_alu.proofs.laws.decimal_sums_are_decimal.Goals as goal

pub returns : goal.returns
returns c = decimal_sum
