use Rattle.lag_bus.proofs.IterationsOfAWait.{iterations-wait}
use Rattle.lag_bus.proofs.laws.iterations_leave_their_cycles.Goals as goal

pub returns : goal.returns
returns g c = λ bus most k n d cpu kept small stay free iteration fits. iterations-wait g.C.Chip.meaning bus most kept small stay free k n d cpu iteration fits
