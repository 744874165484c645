use Rattle.std.proofs.Common.{refl}
use Rattle.run_laws.proofs.Runs.{write_fault_leaves_part}
use Rattle.run_laws.proofs.OfRuns.{of_run}
use Rattle.run_laws.proofs.laws.a_run_that_could_not_write_leaves_a_part.Goals as goal

pub returns : goal.returns
returns c = λ command old new status run same. write_fault_leaves_part _ _ _ _ _ _ _ (of_run command old new status run) refl same
