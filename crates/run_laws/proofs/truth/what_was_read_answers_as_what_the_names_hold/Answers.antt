use Rattle.run_laws.proofs.Known.{answer_known}
use Rattle.run_laws.proofs.truth.what_was_read_answers_as_what_the_names_hold.Goals as goal

pub returns : goal.returns
returns c = λ command old new status run files known. answer_known command old new status run files known
