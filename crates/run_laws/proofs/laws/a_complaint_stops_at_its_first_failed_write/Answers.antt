use Rattle.command_runner.proofs.PlainRuns.{noted}
use Rattle.exit_status.specs.Lines.{end_line}
use Rattle.run_laws.proofs.laws.a_complaint_stops_at_its_first_failed_write.Goals as goal

pub returns : goal.returns
returns c = λ command old new status run. noted (end_line run.refusal) run.note run.complaint
