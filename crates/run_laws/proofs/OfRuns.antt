-- A run by its command is a run by what the command answers.
use Rattle.std.proofs.Common.{◌≡◌, ◌≢◌, ◌+◌, length, Option, Some, sym, ap, ◌∙◌, subst}
use Rattle.std.specs.Prelude.{◌↔◌}
use Rattle.snd_host.specs.History.{ended_of}
use Rattle.snd_host.specs.Host.{HostState}
use Rattle.command_runner.specs.RunCalls.{EndsBy}
use Rattle.command_runner.specs.declared.refusals.Refusal.{Refusal}
use Rattle.command_runner.specs.declared.refusals.Refusal.TheVariants.{Usage, OutOfMemory}
use Rattle.exit_status.specs.declared.cause.Cause.{Cause}
use Rattle.exit_status.specs.declared.status.Status.{Status}
use Rattle.exit_status.specs.declared.status.Status.TheVariants as statuses
use Rattle.exit_status.specs.Statuses.{status_of, end_without_numbers}
use Rattle.command_line.specs.Command.{Command, usage}
use Rattle.run_laws.specs.Answers.{answer_by, inputs_of, order_of}
use Rattle.run_laws.specs.Run.{IsRun}
use Rattle.exit_status.proofs.Ends.{plain_is}
use Rattle.run_laws.proofs.Runs.{RunBy}

module _ (command : Command) (old new : HostState) (status : Status) (run : IsRun command old new status) where
  abbrev pub of_run : RunBy (order_of command) (answer_by command) (inputs_of command) (length (ended_of old.calls)) status old.calls new.calls
  of_run = record {
    refusal = run.refusal;
    status_is = run.status_is;
    given = run.given;
    taken = run.taken;
    made = run.made;
    note = run.note;
    since = run.since.calls;
    ends = run.ends;
    complaint = run.complaint;
  }

  -- the calls where the status has no numbers
  pub ends_as : (p : Option (Refusal Cause)) (s : Status) → end_without_numbers s ≡ Some p → status ≡ s → EndsBy (order_of command) (answer_by command) (inputs_of command) p (length (ended_of old.calls) + 2) run.given run.taken run.made
  ends_as p s plain is =
      subst (λ (r : Option (Refusal Cause)). EndsBy (order_of command) (answer_by command) (inputs_of command) r (length (ended_of old.calls) + 2) run.given run.taken run.made)
      (plain_is run.refusal p (ap end_without_numbers (sym run.status_is ∙ is) ∙ plain)) run.ends

  pub no_memory_is_no_usage : status ≡ statuses.OutOfMemory → command ≢ usage
  no_memory_is_no_usage same words = other run.refusal (plain_is run.refusal (Some OutOfMemory) (ap end_without_numbers (sym run.status_is ∙ same))) (run.misread.1 words)
    where
      other : (r : Option (Refusal Cause)) → r ≡ Some OutOfMemory → r ≡ Some Usage → ⊥
      other r memory misread = cc

  pub usage_is_misread : (status ≡ statuses.Usage) ↔ (command ≡ usage)
  usage_is_misread = (
    (λ same. run.misread.0 (plain_is run.refusal (Some Usage) (ap end_without_numbers (sym run.status_is ∙ same)))),
    λ words. run.status_is ∙ ap status_of (run.misread.1 words),
  )
