-- A run on a steady host: of its calls for inputs only an opening fails, where there is no such input, and of those for outputs, report and complaint
-- none, where there is room for all that they are given.
use Rattle.std.proofs.Common.{◌≡◌, ◌≢◌, ◌⊎◌, inl, inr, ℕ, ◌+◌, ◌≤◌, List, [], ◌++◌, length, Option, Some, None, refl, sym, ap, ◌∙◌, subst, arith, rules}
use Rattle.std.specs.Prelude.{slice_index, IsSome, unwrap_or}
use Rattle.snd_host.specs.Calls.{Call}
use Rattle.snd_host.specs.Follows.{pushed, IsCut, AreWrites}
use Rattle.snd_host.specs.History.{ended_of, in_faults, note_faults, out_faults, rooms_over, AreSteadyCalls}
use Rattle.snd_host.specs.Host.{HostState, Files}
use Rattle.command_runner.specs.Answer.{Answer, refused, outputs_of, report_of}
use Rattle.command_runner.specs.Delivery.{HaveRooms}
use Rattle.command_runner.specs.RunCalls.{EndsBy}
use Rattle.command_runner.specs.declared.refusals.Refusal.{Refusal}
use Rattle.command_runner.specs.declared.refusals.Refusal.TheVariants.{ReadFault, WriteFault}
use Rattle.exit_status.specs.declared.cause.Cause.{Cause}
use Rattle.exit_status.specs.declared.status.Status.{Status}
use Rattle.exit_status.specs.declared.status.Status.TheVariants as statuses
use Rattle.exit_status.specs.Statuses.{answer_status, end_without_numbers}
use Rattle.exit_status.specs.Lines.{end_line, status_line}
use Rattle.exit_status.proofs.Ends.{plain_is}
use Rattle.command_line.specs.Command.{Command}
use Rattle.run_laws.specs.Answers.{answer_by, answer_of, inputs_of, order_of}
use Rattle.run_laws.specs.Run.{IsRun, answered}
use Rattle.run_laws.proofs.Delivering.{line_not_cut}
use Rattle.run_laws.proofs.DeliveryEnds.{no_write_fault}
use Rattle.run_laws.proofs.GoesByInputs.{goes_by}
use Rattle.run_laws.proofs.Known.{answer_known, line_known, true_of_taken, truthful_known}
use Rattle.run_laws.proofs.OfRuns.{ends_as, of_run}
use Rattle.run_laws.proofs.RoomsKept.{complaint_room_kept}
use Rattle.run_laws.proofs.Runs.{notes_kept, unread, unwritten}
use Rattle.run_laws.proofs.Steadily.{AreSteadyCalls-append, answer-cut}

module _ (command : Command) (old new : HostState) (status : Status) (run : IsRun command old new status) (rooms : List ℕ) (steady : old.steady ≡ Some rooms) where
  -- the calls before the complaint, and those for it
  parts : AreSteadyCalls old.holds rooms old.calls (run.taken ++ run.made) × AreSteadyCalls old.holds (rooms_over (run.taken ++ run.made) rooms) (pushed (run.taken ++ run.made) old.calls) run.note
  parts = AreSteadyCalls-append old.holds rooms old.calls (run.taken ++ run.made) run.note (run.since.steady rooms steady).0

  -- The complaint.

  complaint_not_cut : length (end_line run.refusal) ≤ slice_index rooms 1 → IsCut (AreWrites 1 (end_line run.refusal)) run.note → ⊥
  complaint_not_cut fits cut =
      let kept = complaint_room_kept (order_of command) (answer_by command) (inputs_of command) (length (ended_of old.calls) + 2) run.given run.taken run.made run.refusal rooms (omega arith) run.ends in
      line_not_cut old.holds (rooms_over (run.taken ++ run.made) rooms) (end_line run.refusal) (pushed (run.taken ++ run.made) old.calls) run.note (omega (arith, fits, kept)) cut parts.1

  complaint_fits : length (end_line run.refusal) ≤ slice_index rooms 1 → note_faults new.calls ≡ note_faults old.calls
  complaint_fits fits = notes_kept _ _ _ _ _ _ _ (of_run command old new status run) (complaint_not_cut fits)

  pub plain_complaint_fits : (end : Option (Refusal Cause)) → end_without_numbers status ≡ Some end → length (end_line end) ≤ slice_index rooms 1 → note_faults new.calls ≡ note_faults old.calls
  plain_complaint_fits end plain fits =
      let is = plain_is run.refusal end (ap end_without_numbers (sym run.status_is) ∙ plain) in
      complaint_fits (subst (λ (r : Option (Refusal Cause)). length (end_line r) ≤ slice_index rooms 1) (sym is) fits)

  module _ (files : Files) (known : old.holds ≡ Some files) where
    pub known_complaint_fits : length (status_line status (answer_of command files)) ≤ slice_index rooms 1 → note_faults new.calls ≡ note_faults old.calls
    known_complaint_fits fits = complaint_fits (subst (λ (line : List ℕ). length line ≤ slice_index rooms 1) (line_known command old new status run files known) fits)

    -- Inputs.

    pub input_absent : status ≡ statuses.ReadFault → answer_of command files ≡ refused ReadFault
    input_absent read =
        let taken_steady = (AreSteadyCalls-append old.holds rooms old.calls run.taken run.made parts.0).0 in
        answer-cut files (inputs_of command) (answer_by command) run.given rooms run.taken old.calls (goes_by command) (ends_as command old new status run (Some ReadFault) statuses.ReadFault refl read).0
        (true_of_taken command old new status run files known) (subst (λ (holds : Option Files). AreSteadyCalls holds rooms old.calls run.taken) known taken_steady)

    pub inputs_complete : (status ≡ answer_status (answer_of command files)) ⊎ ((status ≡ statuses.WriteFault) ⊎ (status ≡ statuses.OutOfMemory))
    inputs_complete = by (truthful_known command old new status run files known)
      where
        by : (status ≡ answer_status (answer_of command files)) ⊎ ((status ≡ statuses.ReadFault) ⊎ ((status ≡ statuses.WriteFault) ⊎ (status ≡ statuses.OutOfMemory))) →
            (status ≡ answer_status (answer_of command files)) ⊎ ((status ≡ statuses.WriteFault) ⊎ (status ≡ statuses.OutOfMemory))
        by (inl same) = inl same
        by (inr (inl read)) = inl (read ∙ sym (ap answer_status (input_absent read)))
        by (inr (inr other)) = inr other

    pub no_input_fails : answer_status (answer_of command files) ≢ statuses.ReadFault → in_faults new.calls ≡ in_faults old.calls
    no_input_fails there = unread _ _ _ _ _ _ _ (of_run command old new status run) (λ read. there (ap answer_status (input_absent read)))

    -- Outputs and the report.

    module _ (have : HaveRooms (outputs_of (answer_of command files)) rooms (length (ended_of old.calls) + 2)) (fits : length (report_of (answer_of command files)) ≤ slice_index rooms 0) where
      written : status ≡ statuses.WriteFault → ⊥
      written write =
          let same = answer_known command old new status run files known (λ read. absurd (cc)) (λ memory. absurd (cc)) in
          no_write_fault old.holds (order_of command) (answer_by command) (inputs_of command) (length (ended_of old.calls) + 2) run.given run.taken run.made rooms old.calls
          (subst (λ (a : Answer Cause). HaveRooms (outputs_of a) rooms (length (ended_of old.calls) + 2)) (sym same) have)
          (subst (λ (a : Answer Cause). length (report_of a) ≤ slice_index rooms 0) (sym same) fits)
          refl (ends_as command old new status run (Some WriteFault) statuses.WriteFault refl write) parts.0

      pub outputs_complete : (status ≡ answer_status (answer_of command files)) ⊎ (status ≡ statuses.OutOfMemory)
      outputs_complete = by inputs_complete
        where
          by : (status ≡ answer_status (answer_of command files)) ⊎ ((status ≡ statuses.WriteFault) ⊎ (status ≡ statuses.OutOfMemory)) → (status ≡ answer_status (answer_of command files)) ⊎ (status ≡ statuses.OutOfMemory)
          by (inl same) = inl same
          by (inr (inl write)) = absurd (written write)
          by (inr (inr memory)) = inr memory

      pub no_output_fails : out_faults new.calls ≡ out_faults old.calls
      no_output_fails = unwritten _ _ _ _ _ _ _ (of_run command old new status run) written

-- the rooms of a host that is steady
pub steady_rooms : (steady : Option (List ℕ)) → IsSome steady → steady ≡ Some (unwrap_or steady [])
steady_rooms steady is = search rules
