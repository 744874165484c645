use Rattle.run_laws.proofs.Runs.{read_fault_counts}
use Rattle.run_laws.proofs.OfRuns.{of_run}
use Rattle.run_laws.proofs.laws.an_input_that_fails_is_counted_once.Goals as goal

pub returns : goal.returns
returns c = λ command old new status run same. read_fault_counts _ _ _ _ _ _ _ (of_run command old new status run) same
