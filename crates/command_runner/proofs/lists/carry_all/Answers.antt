use Rattle.std.proofs.Common.{Ok, Err}
use Rattle.command_runner.specs.Listed.{list_makes}
use Rattle.command_runner.proofs.Attempting.{carried_out}
use Rattle.command_runner.proofs.lists.carry_all.Goals as goal

pub returns-in-Ok-deliver_all : goal.returns-in-Ok-deliver_all
returns-in-Ok-deliver_all g c = rw c.in-Ok.is (carried_out (list_makes g.P.Pieces.to_come) c.in-Ok.plan _ _ (Ok (tt {0})) c.in-Ok-deliver_all.ensures)

pub returns-in-Err-deliver_all : goal.returns-in-Err-deliver_all
returns-in-Err-deliver_all g c = rw c.in-Ok.is (carried_out (list_makes g.P.Pieces.to_come) c.in-Ok.plan _ _ (Err c.in-Err-deliver_all.field-0) c.in-Err-deliver_all.ensures)
