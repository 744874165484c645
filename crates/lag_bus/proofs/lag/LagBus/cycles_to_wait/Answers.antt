use Rattle.std.proofs.Common.{arith}
use Rattle.std.proofs.lemmas.Grind.{common_steps}
use Rattle.lag_bus.proofs.lag.LagBus.cycles_to_wait.Goals as goal

pub returns-clause-zeros : goal.returns-clause-zeros
returns-clause-zeros c = grind (arith, common_steps)
