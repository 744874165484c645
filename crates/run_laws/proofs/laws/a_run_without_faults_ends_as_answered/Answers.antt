use Rattle.run_laws.proofs.Runs.{completes}
use Rattle.run_laws.proofs.OfRuns.{of_run}
use Rattle.run_laws.proofs.laws.a_run_without_faults_ends_as_answered.Goals as goal

pub returns : goal.returns
returns c = λ command old new status run none_rose. completes _ _ _ _ _ _ _ (of_run command old new status run) none_rose
