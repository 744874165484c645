use Rattle.run_laws.proofs.Known.{write_accepted_known}
use Rattle.run_laws.proofs.truth.what_could_not_be_written_was_answered.Goals as goal

pub returns : goal.returns
returns c = λ command old new status run files known. write_accepted_known command old new status run files known
