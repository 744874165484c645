use Rattle.std.proofs.Common.{refl}
use Rattle.run_laws.proofs.Runs.{report_last}
use Rattle.run_laws.proofs.OfRuns.{of_run}
use Rattle.run_laws.proofs.laws.a_report_comes_last.Goals as goal

pub returns : goal.returns
returns c = λ command old new status run grew. report_last _ _ _ _ _ _ _ (of_run command old new status run) refl grew
