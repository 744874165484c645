-- A run is what its command did, and then its complaint.
use Rattle.std.proofs.Common.{◌≡◌, ◌++◌, Option, Some}
use Rattle.std.specs.Prelude.{◌↔◌}
use Rattle.snd_host.specs.Host.{HostState}
use Rattle.snd_host.proofs.CallsInOrder.{since_then}
use Rattle.command_runner.specs.RunCalls.{AttemptsBy, NotesLine}
use Rattle.command_runner.specs.declared.refusals.Refusal.{Refusal}
use Rattle.command_runner.specs.declared.refusals.Refusal.TheVariants.{Usage}
use Rattle.command_line.specs.Command.{Command, usage}
use Rattle.exit_status.specs.declared.cause.Cause.{Cause}
use Rattle.exit_status.specs.declared.status.Status.{Status}
use Rattle.exit_status.specs.Lines.{end_line}
use Rattle.exit_status.specs.Statuses.{status_of}
use Rattle.run_laws.specs.Answers.{answer_by, inputs_of, order_of}
use Rattle.run_laws.specs.Run.{IsRun}

pub is_run : (command : Command) (r : Option (Refusal Cause)) (x y z : HostState) (status : Status) → status ≡ status_of r → AttemptsBy (order_of command) (answer_by command) (inputs_of command) r x y → NotesLine (end_line r) y z →
    (r ≡ Some Usage) ↔ (command ≡ usage) → IsRun command x z status
is_run command r x y z status is attempt note misread = record {
  refusal = r;
  status_is = is;
  given = attempt.given;
  taken = attempt.taken;
  made = attempt.made;
  note = note.note;
  since = since_then (attempt.taken ++ attempt.made) note.note x y z attempt.since note.since;
  ends = attempt.ends;
  complaint = note.noted;
  misread = misread;
}
