use Rattle.run_laws.proofs.Known.{all_known}
use Rattle.run_laws.proofs.truth.a_run_that_ends_as_the_names_say_leaves_all.Goals as goal

pub returns : goal.returns
returns c = λ command old new status run files known. all_known command old new status run files known
