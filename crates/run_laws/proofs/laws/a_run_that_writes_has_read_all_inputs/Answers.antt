use Rattle.run_laws.proofs.ReadRuns.{all_read}
use Rattle.run_laws.proofs.laws.a_run_that_writes_has_read_all_inputs.Goals as goal

pub returns : goal.returns
returns c = λ command old new status run. all_read command old new status run
