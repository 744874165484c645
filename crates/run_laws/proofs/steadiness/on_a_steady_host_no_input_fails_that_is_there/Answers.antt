use Rattle.run_laws.proofs.SteadyRuns.{no_input_fails, steady_rooms}
use Rattle.run_laws.proofs.steadiness.on_a_steady_host_no_input_fails_that_is_there.Goals as goal

pub returns : goal.returns
returns c = λ command old new status run steady files known. no_input_fails command old new status run _ (steady_rooms old.steady steady) files known
