use Rattle.std.proofs.Common.{◌+◌, length}
use Rattle.snd_host.specs.History.{ended_of}
use Rattle.command_runner.proofs.PlainRuns.{ends_plain}
use Rattle.run_laws.specs.Answers.{answer_by, inputs_of, order_of}
use Rattle.run_laws.proofs.laws.a_run_stops_at_its_first_failed_call.Goals as goal

pub returns : goal.returns
returns c = λ command old new status run.
    ends_plain (order_of command) (answer_by command) (inputs_of command) run.refusal (length (ended_of old.calls) + 2) run.given run.taken run.made run.ends
