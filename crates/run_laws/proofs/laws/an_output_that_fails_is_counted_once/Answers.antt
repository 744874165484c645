use Rattle.run_laws.proofs.Runs.{write_fault_counts}
use Rattle.run_laws.proofs.OfRuns.{of_run}
use Rattle.run_laws.proofs.laws.an_output_that_fails_is_counted_once.Goals as goal

pub returns : goal.returns
returns c = λ command old new status run same. write_fault_counts _ _ _ _ _ _ _ (of_run command old new status run) same
