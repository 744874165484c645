use Rattle.run_laws.proofs.Known.{completes_known}
use Rattle.run_laws.proofs.truth.a_run_without_faults_ends_as_the_names_say.Goals as goal

pub returns : goal.returns
returns c = λ command old new status run files known. completes_known command old new status run files known
