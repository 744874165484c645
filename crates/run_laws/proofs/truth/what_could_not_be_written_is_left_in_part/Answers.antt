use Rattle.run_laws.proofs.Known.{part_known}
use Rattle.run_laws.proofs.truth.what_could_not_be_written_is_left_in_part.Goals as goal

pub returns : goal.returns
returns c = λ command old new status run files known. part_known command old new status run files known
