use Rattle.run_laws.proofs.SteadyRuns.{known_complaint_fits}
use Rattle.run_laws.proofs.steadiness.with_room_no_complaint_fails.Goals as goal

pub returns : goal.returns
returns c = λ command old new status run rooms steady files known. known_complaint_fits command old new status run rooms steady files known
