-- A run that was to write outputs read all inputs that its words name.
use Rattle.std.proofs.Common.{◌≡◌, ◌+◌, ◌⊎◌, inl, inr, List, length, Some, None, refl, sym}
use Rattle.snd_host.specs.History.{ended_of}
use Rattle.snd_host.specs.Host.{HostState}
use Rattle.command_runner.specs.declared.refusals.Refusal.TheVariants.{WriteFault}
use Rattle.exit_status.specs.declared.status.Status.{Status}
use Rattle.exit_status.specs.declared.status.Status.TheVariants as statuses
use Rattle.command_line.specs.Command.{Command}
use Rattle.run_laws.specs.Answers.{answer_by, inputs_of, order_of}
use Rattle.run_laws.specs.Run.{IsRun, answered}
use Rattle.run_laws.proofs.Ending.{answer_accepted}
use Rattle.run_laws.proofs.GoesOnByInputs.{goes_on}
use Rattle.run_laws.proofs.OfRuns.{ends_as}
use Rattle.run_laws.proofs.Reached.{all_reached}

module _ (command : Command) (old new : HostState) (status : Status) (run : IsRun command old new status) where
  pub all_read : (status ≡ statuses.Ok) ⊎ (status ≡ statuses.WriteFault) → length run.given ≡ length (inputs_of command)
  all_read (inl is) =
      let ends = ends_as command old new status run None statuses.Ok refl is in
      all_reached (inputs_of command) (answer_by command) run.given run.taken (goes_on command) ends.0 (sym (answer_accepted (order_of command) (length (ended_of old.calls) + 2) (answered run) run.made ends.1))
  all_read (inr is) =
      let ends = ends_as command old new status run (Some WriteFault) statuses.WriteFault refl is in
      all_reached (inputs_of command) (answer_by command) run.given run.taken (goes_on command) ends.0 (sym (answer_accepted (order_of command) (length (ended_of old.calls) + 2) (answered run) _ ends.1.whole))
