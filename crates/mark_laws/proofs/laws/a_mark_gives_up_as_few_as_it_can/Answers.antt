use Rattle.mark_laws.proofs.Fewest.{as_few_as_leave_room}
use Rattle.mark_laws.proofs.laws.a_mark_gives_up_as_few_as_it_can.Goals as goal

pub returns : goal.returns
returns c = as_few_as_leave_room
