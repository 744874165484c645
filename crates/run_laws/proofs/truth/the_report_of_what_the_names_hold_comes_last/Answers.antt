use Rattle.run_laws.proofs.Known.{report_last_known}
use Rattle.run_laws.proofs.truth.the_report_of_what_the_names_hold_comes_last.Goals as goal

pub returns : goal.returns
returns c = λ command old new status run files known. report_last_known command old new status run files known
