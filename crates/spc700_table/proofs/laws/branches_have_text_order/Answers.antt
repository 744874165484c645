use Rattle.spc700_table.proofs.Distinct.{text_order}
use Rattle.spc700_table.proofs.laws.branches_have_text_order.Goals as goal

pub returns : goal.returns
returns c = text_order
