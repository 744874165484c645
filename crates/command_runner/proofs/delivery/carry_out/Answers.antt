use Rattle.std.proofs.Common.{Ok, Err}
use Rattle.command_runner.specs.Plan.{plan_makes}
use Rattle.command_runner.proofs.Attempting.{carried_out}
use Rattle.command_runner.proofs.delivery.carry_out.Goals as goal

pub returns-in-Ok-deliver : goal.returns-in-Ok-deliver
returns-in-Ok-deliver g c = rw c.in-Ok.is (carried_out plan_makes c.in-Ok.plan _ _ (Ok (tt {0})) c.in-Ok-deliver.ensures)

pub returns-in-Ok : goal.returns-in-Ok
returns-in-Ok g c = rw c.in-Ok.is (carried_out plan_makes c.in-Ok.plan _ _ (Err c.in-Err-deliver.field-0) c.in-Err-deliver.ensures)
