use Rattle.run_laws.proofs.Runs.{unread}
use Rattle.run_laws.proofs.OfRuns.{of_run}
use Rattle.run_laws.proofs.laws.no_other_status_counts_an_input.Goals as goal

pub returns : goal.returns
returns c = λ command old new status run other. unread _ _ _ _ _ _ _ (of_run command old new status run) other
