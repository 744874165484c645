use Rattle.std.proofs.Common.{refl}
use Rattle.idle_loops.proofs.Iterations.{waited-iterations}
use Rattle.idle_loops.proofs.laws.iterations_only_wait.Goals as goal

pub returns : goal.returns
returns g c = λ bare sees most waited k n d cpu s law same iteration fits. waited-iterations g.B.Bus.means bare sees most waited law k n d (cpu, s) cpu (refl, same) iteration fits
