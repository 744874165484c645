use Rattle.run_laws.proofs.Runs.{unwritten}
use Rattle.run_laws.proofs.OfRuns.{of_run}
use Rattle.run_laws.proofs.laws.no_other_status_counts_an_output.Goals as goal

pub returns : goal.returns
returns c = λ command old new status run other. unwritten _ _ _ _ _ _ _ (of_run command old new status run) other
