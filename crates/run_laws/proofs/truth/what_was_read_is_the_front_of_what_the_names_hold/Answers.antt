use Rattle.run_laws.proofs.Known.{fronts_given}
use Rattle.run_laws.proofs.truth.what_was_read_is_the_front_of_what_the_names_hold.Goals as goal

pub returns : goal.returns
returns c = λ command old new status run files known. fronts_given command old new status run files known
