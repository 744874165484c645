use Rattle.run_laws.proofs.Runs.{complains}
use Rattle.run_laws.proofs.OfRuns.{of_run}
use Rattle.run_laws.proofs.laws.a_complaint_is_the_line_of_its_status.Goals as goal

pub returns : goal.returns
returns c = λ command old new status run. complains _ _ _ _ _ _ _ (of_run command old new status run)
