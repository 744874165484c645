use Rattle.run_laws.proofs.SteadyRuns.{outputs_complete}
use Rattle.run_laws.proofs.steadiness.with_room_a_run_ends_as_the_names_say.Goals as goal

pub returns : goal.returns
returns c = λ command old new status run rooms steady files known. outputs_complete command old new status run rooms steady files known
