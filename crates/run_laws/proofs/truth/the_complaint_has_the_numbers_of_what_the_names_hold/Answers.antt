use Rattle.run_laws.proofs.Known.{complains_known}
use Rattle.run_laws.proofs.truth.the_complaint_has_the_numbers_of_what_the_names_hold.Goals as goal

pub returns : goal.returns
returns c = λ command old new status run files known. complains_known command old new status run files known
