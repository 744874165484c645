use Rattle.spc700_exec.proofs.EveryRow.{rows_suit}
use Rattle.spc700_exec.proofs.laws.forms_suit_their_operations.Goals as goal

pub returns : goal.returns
returns c = rows_suit
