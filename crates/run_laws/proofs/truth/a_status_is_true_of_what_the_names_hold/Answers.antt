use Rattle.run_laws.proofs.Known.{truthful_known}
use Rattle.run_laws.proofs.truth.a_status_is_true_of_what_the_names_hold.Goals as goal

pub returns : goal.returns
returns c = λ command old new status run files known. truthful_known command old new status run files known
