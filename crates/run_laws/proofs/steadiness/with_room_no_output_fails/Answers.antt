use Rattle.run_laws.proofs.SteadyRuns.{no_output_fails}
use Rattle.run_laws.proofs.steadiness.with_room_no_output_fails.Goals as goal

pub returns : goal.returns
returns c = λ command old new status run rooms steady files known. no_output_fails command old new status run rooms steady files known
