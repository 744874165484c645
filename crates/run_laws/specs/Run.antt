-- What a run of the program does: which calls it makes.
use Rattle.std.specs.Prelude.{◌≡◌, ◌↔◌, ◌+◌, ℕ, List, ◌++◌, length, Option, Some}
use Rattle.snd_host.specs.Calls.{Call}
use Rattle.snd_host.specs.Follows.{Since}
use Rattle.snd_host.specs.History.{ended_of}
use Rattle.snd_host.specs.Host.{HostState}
use Rattle.command_runner.specs.Answer.{Answer}
use Rattle.command_runner.specs.NamedInputs.{held_of}
use Rattle.command_runner.specs.RunCalls.{EndsBy, AreNoted}
use Rattle.command_runner.specs.declared.refusals.Refusal.{Refusal}
use Rattle.command_runner.specs.declared.refusals.Refusal.TheVariants.{Usage}
use Rattle.exit_status.specs.declared.cause.Cause.{Cause}
use Rattle.exit_status.specs.declared.status.Status.{Status}
use Rattle.exit_status.specs.Statuses.{status_of}
use Rattle.exit_status.specs.Lines.{end_line}
use Rattle.command_line.specs.Command.{Command, usage}
use Rattle.run_laws.specs.Answers.{answer_by, inputs_of, order_of}

-- The calls that a run makes, in their order: those for its inputs, those for its outputs and its report, those for its line of complaint, and no
-- others. So nothing comes after a call that failed but the complaint. The answer depends on the bytes that the inputs gave.
pub record IsRun (command : Command) (old new : HostState) (status : Status) : Type 0 where
  -- why it was refused, if it was: the status and the line of complaint say this
  pub refusal : Option (Refusal Cause)
  pub status_is : status ≡ status_of refusal
  -- the bytes that each input gave, or would have given up to its end where a call failed or memory was wanting
  pub given : List (List ℕ)
  pub taken : List Call
  pub made : List Call
  pub note : List Call
  pub since : Since (taken ++ made ++ note) old new
  -- The first output that it creates gets the number after those of the outputs before.
  pub ends : EndsBy (order_of command) (answer_by command) (inputs_of command) refusal (length (ended_of old.calls) + 2) given taken made
  pub complaint : AreNoted (end_line refusal) note
  -- Words that say no command end as such, whatever memory there is.
  pub misread : (refusal ≡ Some Usage) ↔ (command ≡ usage)

-- what the command answers by the bytes that its inputs gave
abbrev pub answered : {command : Command} {old new : HostState} {status : Status} → IsRun command old new status → Answer Cause
answered {command = command} run = answer_by command (held_of run.given)
