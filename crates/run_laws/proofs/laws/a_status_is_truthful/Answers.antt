use Rattle.run_laws.proofs.Runs.{truthful}
use Rattle.run_laws.proofs.OfRuns.{of_run}
use Rattle.run_laws.proofs.laws.a_status_is_truthful.Goals as goal

pub returns : goal.returns
returns c = λ command old new status run. truthful _ _ _ _ _ _ _ (of_run command old new status run)
