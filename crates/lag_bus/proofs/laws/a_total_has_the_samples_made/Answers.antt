use Rattle.lag_bus.proofs.TotalOfCalls.{total-calls}
use Rattle.lag_bus.proofs.laws.a_total_has_the_samples_made.Goals as goal

pub returns : goal.returns
returns g c = λ calls bus few matches. total-calls g.C.Chip.meaning g.C.Chip.saving calls bus few matches
