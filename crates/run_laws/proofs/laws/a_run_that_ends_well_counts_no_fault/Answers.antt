use Rattle.run_laws.proofs.Runs.{ok_keeps_counts}
use Rattle.run_laws.proofs.OfRuns.{of_run}
use Rattle.run_laws.proofs.laws.a_run_that_ends_well_counts_no_fault.Goals as goal

pub returns : goal.returns
returns c = λ command old new status run same. ok_keeps_counts _ _ _ _ _ _ _ (of_run command old new status run) same
