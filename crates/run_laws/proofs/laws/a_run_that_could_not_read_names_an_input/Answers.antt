use Rattle.run_laws.proofs.Runs.{read_fault_names_input}
use Rattle.run_laws.proofs.OfRuns.{of_run}
use Rattle.run_laws.proofs.laws.a_run_that_could_not_read_names_an_input.Goals as goal

pub returns : goal.returns
returns c = λ command old new status run same. read_fault_names_input _ _ _ _ _ _ _ (of_run command old new status run) same
