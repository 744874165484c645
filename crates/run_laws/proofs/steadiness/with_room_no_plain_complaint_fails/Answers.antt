use Rattle.run_laws.proofs.SteadyRuns.{plain_complaint_fits}
use Rattle.run_laws.proofs.steadiness.with_room_no_plain_complaint_fails.Goals as goal

pub returns : goal.returns
returns c = λ command old new status run rooms steady end plain. plain_complaint_fits command old new status run rooms steady end plain
