-- A run by what the names hold. Where its inputs were read, what they gave is answered as what their names hold. Where one could not be read or memory
-- was wanting, nothing is left, whatever is answered.
use Rattle.std.proofs.Common.{◌≡◌, ◌≢◌, ◌⊎◌, inl, inr, ℕ, List, ◌++◌, Option, Some, None, refl, sym, ap, ◌∙◌, subst}
use Rattle.std.specs.Prelude.{slice_get}
use Rattle.std.proofs.lemmas.List.{append-nil}
use Rattle.snd_host.specs.Calls.{Call}
use Rattle.snd_host.specs.History.{given_of, in_faults, AreTrueOf}
use Rattle.snd_host.specs.Host.{HostState, Files}
use Rattle.snd_host.specs.Takes.{GaveFront}
use Rattle.snd_host.proofs.Writes.{rose}
use Rattle.command_runner.proofs.FrontsHeld.{each_gave_front}
use Rattle.command_runner.specs.Answer.{Answer, done, refused, refusal_of}
use Rattle.command_runner.specs.NamedInputs.{NamedInput, Held, TakesInOrder}
use Rattle.command_runner.specs.OutputCalls.{Order}
use Rattle.command_runner.specs.RunCalls.{EndsBy}
use Rattle.command_runner.specs.declared.refusals.Refusal.{Refusal}
use Rattle.command_runner.specs.declared.refusals.Refusal.TheVariants.{Usage, ReadFault, WriteFault, OutOfMemory, Input}
use Rattle.exit_status.specs.declared.cause.Cause.{Cause}
use Rattle.exit_status.specs.declared.status.Status.{Status}
use Rattle.exit_status.specs.declared.status.Status.TheVariants as statuses
use Rattle.exit_status.specs.Statuses.{status_of, answer_status, end_without_numbers}
use Rattle.exit_status.specs.Lines.{end_line, status_line}
use Rattle.exit_status.proofs.Ends.{plain_is}
use Rattle.command_line.specs.Command.{Command}
use Rattle.run_laws.specs.Answers.{answer_by, answer_of, inputs_of, order_of}
use Rattle.run_laws.specs.Left.{LeavesNothing, LeavesAll, LeavesPart, ReportsLast, Complains, NoneRose}
use Rattle.run_laws.specs.Run.{IsRun, answered}
use Rattle.run_laws.proofs.Given.{answer-given}
use Rattle.run_laws.proofs.GoesByInputs.{goes_by}
use Rattle.snd_host.proofs.Held.{AreTrueOf-append}
use Rattle.run_laws.proofs.OfRuns.{of_run}
use Rattle.run_laws.proofs.Runs.{complains, completes, line_is, read_fault_counts, refused_leaves_nothing, report_last, settled_leaves_all, truthful, write_fault_accepted, write_fault_leaves_part}

-- Where an end is neither of two, all calls for inputs were made.
takes_of : {C : Type 0} (order : Order) (answer : Held → Answer C) (inputs : List NamedInput) (r : Option (Refusal C)) (n : ℕ) (given : List (List ℕ)) (taken made : List Call) → (r ≡ Some ReadFault → ⊥) → (r ≡ Some OutOfMemory → ⊥) →
    EndsBy order answer inputs r n given taken made → TakesInOrder inputs given taken
takes_of order answer inputs None n given taken made not_read not_memory ends = ends.0
takes_of order answer inputs (Some WriteFault) n given taken made not_read not_memory ends = ends.0
takes_of order answer inputs (Some ReadFault) n given taken made not_read not_memory ends = absurd (not_read refl)
takes_of order answer inputs (Some OutOfMemory) n given taken made not_read not_memory ends = absurd (not_memory refl)
takes_of order answer inputs (Some Usage) n given taken made not_read not_memory ends = ends.0
takes_of order answer inputs (Some (Input cause)) n given taken made not_read not_memory ends = ends.0

abbrev IsOther : Option (Refusal Cause) → Type 0
IsOther r = (r ≡ Some ReadFault → ⊥) × (r ≡ Some OutOfMemory → ⊥)

which : (r : Option (Refusal Cause)) → (r ≡ Some ReadFault) ⊎ ((r ≡ Some OutOfMemory) ⊎ IsOther r)
which (Some ReadFault) = inl refl
which (Some OutOfMemory) = inr (inl refl)
which None = inr (inr ((λ is. absurd (cc)), (λ is. absurd (cc))))
which (Some WriteFault) = inr (inr ((λ is. absurd (cc)), (λ is. absurd (cc))))
which (Some Usage) = inr (inr ((λ is. absurd (cc)), (λ is. absurd (cc))))
which (Some (Input cause)) = inr (inr ((λ is. absurd (cc)), (λ is. absurd (cc))))

-- all of what is refused is nothing
none_is_all : (a : Answer Cause) (why : Refusal Cause) (old new : List Call) → refusal_of a ≡ Some why → LeavesNothing old new → LeavesAll a old new
none_is_all (done outputs report) why old new is left = absurd (cc)
none_is_all (refused other) why old new is left = left

module _ (command : Command) (old new : HostState) (status : Status) (run : IsRun command old new status) (files : Files) (known : old.holds ≡ Some files) where
  pub true_calls : AreTrueOf files old.calls (run.taken ++ run.made ++ run.note)
  true_calls = run.since.true files known

  pub true_of_taken : AreTrueOf files old.calls run.taken
  true_of_taken = (AreTrueOf-append files old.calls run.taken run.made (AreTrueOf-append files old.calls (run.taken ++ run.made) run.note true_calls).0).0

  answer_is : IsOther run.refusal → answered run ≡ answer_of command files
  answer_is other =
      answer-given files (inputs_of command) (answer_by command) run.given run.taken old.calls (goes_by command)
      (takes_of (order_of command) (answer_by command) (inputs_of command) run.refusal _ run.given run.taken run.made other.0 other.1 run.ends) true_of_taken

  pub fronts_given : status ≢ statuses.ReadFault → status ≢ statuses.OutOfMemory → (place : ℕ) (input : NamedInput) (bytes : List ℕ) → slice_get (inputs_of command) place ≡ Some input → slice_get run.given place ≡ Some bytes →
      GaveFront files input.name input.limit bytes
  fronts_given not_read not_memory place input bytes =
      each_gave_front files (inputs_of command) run.given run.taken old.calls place input bytes
      (takes_of (order_of command) (answer_by command) (inputs_of command) run.refusal _ run.given run.taken run.made (λ is. not_read (run.status_is ∙ ap status_of is)) (λ is. not_memory (run.status_is ∙ ap status_of is)) run.ends)
      true_of_taken

  pub answer_known : status ≢ statuses.ReadFault → status ≢ statuses.OutOfMemory → answered run ≡ answer_of command files
  answer_known not_read not_memory = answer_is ((λ is. not_read (run.status_is ∙ ap status_of is)), (λ is. not_memory (run.status_is ∙ ap status_of is)))

  -- What holds of the answer by what was read, and of any where nothing came of it, holds of that by what the names hold.
  pub by_names : (P : Answer Cause → Type 0) → ((a : Answer Cause) → status ≡ statuses.ReadFault → P a) → ((a : Answer Cause) → status ≡ statuses.OutOfMemory → P a) → P (answered run) → P (answer_of command files)
  by_names P read memory here = by (which run.refusal)
    where
      by : (run.refusal ≡ Some ReadFault) ⊎ ((run.refusal ≡ Some OutOfMemory) ⊎ IsOther run.refusal) → P (answer_of command files)
      by (inl is) = read (answer_of command files) (run.status_is ∙ ap status_of is)
      by (inr (inl is)) = memory (answer_of command files) (run.status_is ∙ ap status_of is)
      by (inr (inr other)) = subst P (answer_is other) here

  nothing_read : status ≡ statuses.ReadFault → LeavesNothing old.calls new.calls
  nothing_read read = refused_leaves_nothing _ _ _ _ _ _ _ (of_run command old new status run) (λ ok. absurd (cc)) (λ write. absurd (cc))

  nothing_without_memory : status ≡ statuses.OutOfMemory → LeavesNothing old.calls new.calls
  nothing_without_memory memory = refused_leaves_nothing _ _ _ _ _ _ _ (of_run command old new status run) (λ ok. absurd (cc)) (λ write. absurd (cc))

  refusal_is : (p : Option (Refusal Cause)) (s : Status) (a : Answer Cause) → end_without_numbers s ≡ Some p → status ≡ s → status ≡ answer_status a → refusal_of a ≡ p
  refusal_is p s a plain is same = plain_is (refusal_of a) p (ap end_without_numbers (sym same ∙ is) ∙ plain)

  pub all_known : status ≡ answer_status (answer_of command files) → LeavesAll (answer_of command files) old.calls new.calls
  all_known =
      by_names (λ a. status ≡ answer_status a → LeavesAll a old.calls new.calls)
      (λ a read same. none_is_all a ReadFault old.calls new.calls (refusal_is (Some ReadFault) statuses.ReadFault a refl read same) (nothing_read read))
      (λ a memory same. none_is_all a OutOfMemory old.calls new.calls (refusal_is (Some OutOfMemory) statuses.OutOfMemory a refl memory same) (nothing_without_memory memory))
      (settled_leaves_all _ _ _ _ _ _ _ (of_run command old new status run) refl)

  did_not_grow : LeavesNothing old.calls new.calls → (given_of new.calls).report ≡ (given_of old.calls).report
  did_not_grow left = left.report ∙ append-nil (given_of old.calls).report

  pub report_last_known : ReportsLast (answer_of command files) old.calls new.calls
  report_last_known =
      by_names (λ a. ReportsLast a old.calls new.calls) (λ a read grew. absurd (grew (did_not_grow (nothing_read read)))) (λ a memory grew. absurd (grew (did_not_grow (nothing_without_memory memory))))
      (report_last _ _ _ _ _ _ _ (of_run command old new status run) refl)

  -- The line of a status without numbers is the same for all answers.
  pub line_known : status_line status (answer_of command files) ≡ end_line run.refusal
  line_known = by_names (λ a. status_line status a ≡ end_line run.refusal) (line statuses.ReadFault (λ a. refl)) (line statuses.OutOfMemory (λ a. refl)) here
    where
      here : status_line status (answered run) ≡ end_line run.refusal
      here = line_is _ _ _ _ _ _ _ (of_run command old new status run)

      line : (s : Status) → ((a : Answer Cause) → status_line s a ≡ status_line s (answered run)) → (a : Answer Cause) → status ≡ s → status_line status a ≡ end_line run.refusal
      line s same a is = ap (λ (t : Status). status_line t a) is ∙ same a ∙ ap (λ (t : Status). status_line t (answered run)) (sym is) ∙ here

  pub complains_known : Complains (status_line status (answer_of command files)) old.calls new.calls
  complains_known =
      subst (λ (line : List ℕ). Complains line old.calls new.calls) (line_is _ _ _ _ _ _ _ (of_run command old new status run) ∙ sym line_known) (complains _ _ _ _ _ _ _ (of_run command old new status run))

  pub write_accepted_known : status ≡ statuses.WriteFault → answer_status (answer_of command files) ≡ statuses.Ok
  write_accepted_known write =
      by_names (λ a. answer_status a ≡ statuses.Ok) (λ a read. absurd (cc)) (λ a memory. absurd (cc)) (write_fault_accepted _ _ _ _ _ _ _ (of_run command old new status run) write)

  pub part_known : status ≡ statuses.WriteFault → LeavesPart (answer_of command files) old.calls new.calls
  part_known write =
      by_names (λ a. LeavesPart a old.calls new.calls) (λ a read. absurd (cc)) (λ a memory. absurd (cc)) (write_fault_leaves_part _ _ _ _ _ _ _ (of_run command old new status run) refl write)

  pub truthful_known : (status ≡ answer_status (answer_of command files)) ⊎ ((status ≡ statuses.ReadFault) ⊎ ((status ≡ statuses.WriteFault) ⊎ (status ≡ statuses.OutOfMemory)))
  truthful_known =
      by_names (λ a. (status ≡ answer_status a) ⊎ ((status ≡ statuses.ReadFault) ⊎ ((status ≡ statuses.WriteFault) ⊎ (status ≡ statuses.OutOfMemory))))
      (λ a read. inr (inl read)) (λ a memory. inr (inr (inr memory))) (truthful _ _ _ _ _ _ _ (of_run command old new status run))

  pub completes_known : NoneRose old.calls new.calls → (status ≡ answer_status (answer_of command files)) ⊎ (status ≡ statuses.OutOfMemory)
  completes_known none_rose =
      by_names (λ a. (status ≡ answer_status a) ⊎ (status ≡ statuses.OutOfMemory))
      (λ a read. absurd (none_rose.inputs (rose (in_faults old.calls) (in_faults new.calls) (read_fault_counts _ _ _ _ _ _ _ (of_run command old new status run) read))))
      (λ a memory. inr memory) (completes _ _ _ _ _ _ _ (of_run command old new status run) none_rose)
