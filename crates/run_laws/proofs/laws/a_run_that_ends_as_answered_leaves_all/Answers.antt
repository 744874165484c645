use Rattle.std.proofs.Common.{refl}
use Rattle.run_laws.proofs.Runs.{settled_leaves_all}
use Rattle.run_laws.proofs.OfRuns.{of_run}
use Rattle.run_laws.proofs.laws.a_run_that_ends_as_answered_leaves_all.Goals as goal

pub returns : goal.returns
returns c = λ command old new status run same. settled_leaves_all _ _ _ _ _ _ _ (of_run command old new status run) refl same
