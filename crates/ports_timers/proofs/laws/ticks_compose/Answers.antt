use Rattle.ports_timers.proofs.Ticks.{after_ticks_of-then, output-stays}
use Rattle.ports_timers.proofs.laws.ticks_compose.Goals as goal

pub returns-clause-compose : goal.returns-clause-compose
returns-clause-compose c = after_ticks_of-then

pub returns-clause-still : goal.returns-clause-still
returns-clause-still c = λ enabled period clock cycles timer small. output-stays enabled period clock cycles timer small.target small.inner
