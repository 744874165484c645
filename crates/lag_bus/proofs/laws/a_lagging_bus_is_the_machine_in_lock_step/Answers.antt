use Rattle.lag_bus.proofs.SameMachine.{after_calls-machine, read_after_calls, after_drain-call}
use Rattle.lag_bus.proofs.laws.a_lagging_bus_is_the_machine_in_lock_step.Goals as goal

pub returns-clause-machine : goal.returns-clause-machine
returns-clause-machine g c = λ calls bus. after_calls-machine g.C.Chip.meaning g.C.Chip.saving calls bus

pub returns-clause-answer : goal.returns-clause-answer
returns-clause-answer g c = λ calls at bus. read_after_calls g.C.Chip.meaning g.C.Chip.saving calls at bus

pub returns-clause-drain : goal.returns-clause-drain
returns-clause-drain g c = λ bus records all. after_drain-call g.C.Chip.meaning g.C.Chip.saving bus records all
