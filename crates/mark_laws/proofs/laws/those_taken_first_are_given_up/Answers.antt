use Rattle.mark_laws.proofs.Fewest.{taken_first_go_first}
use Rattle.mark_laws.proofs.laws.those_taken_first_are_given_up.Goals as goal

pub returns : goal.returns
returns c = taken_first_go_first
