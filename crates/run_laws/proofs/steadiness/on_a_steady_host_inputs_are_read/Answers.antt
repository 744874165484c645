use Rattle.run_laws.proofs.SteadyRuns.{inputs_complete, steady_rooms}
use Rattle.run_laws.proofs.steadiness.on_a_steady_host_inputs_are_read.Goals as goal

pub returns : goal.returns
returns c = λ command old new status run steady files known. inputs_complete command old new status run _ (steady_rooms old.steady steady) files known
