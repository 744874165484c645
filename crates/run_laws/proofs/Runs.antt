-- Laws of a run, from the list of its calls. The calls for inputs, outputs and the report come to what the end says, and those for the complaint
-- leave all of it but the complaint and its count.
use Rattle.std.proofs.Common.{◌≡◌, ◌≢◌, ◌⊎◌, inl, inr, ℕ, ◌+◌, ◌≤◌, Bool, List, [], ◌∷◌, ◌++◌, length, Option, Some, None, refl, sym, ◌∙◌, ap, subst, arith}
use Rattle.std.specs.Prelude.{unwrap_or, IsTrue}
use Rattle.std.proofs.lemmas.List.{append-nil}
use Rattle.snd_host.specs.Calls.{Call}
use Rattle.snd_host.specs.Host.{Output, IsPrefix, next_count, Rose}
use Rattle.snd_host.specs.Follows.{pushed, bytes_written, IsCut, AreWrites, KeepsCounts}
use Rattle.snd_host.proofs.CallsInOrder.{pushed_more, bytes_more}
use Rattle.snd_host.proofs.Writes.{rose}
use Rattle.command_runner.specs.Answer.{Answer, refusal_of, outputs_of}
use Rattle.command_runner.specs.Delivery.{all_ended}
use Rattle.command_runner.specs.NamedInputs.{NamedInput, Held, held_of, are_some}
use Rattle.command_runner.specs.OutputCalls.{Order}
use Rattle.command_runner.specs.RunCalls.{EndsBy, AreNoted}
use Rattle.command_runner.specs.declared.refusals.Refusal.{Refusal}
use Rattle.command_runner.specs.declared.refusals.Refusal.TheVariants.{ReadFault, WriteFault, OutOfMemory}
use Rattle.exit_status.specs.declared.cause.Cause.{Cause}
use Rattle.exit_status.specs.declared.status.Status.{Status}
use Rattle.exit_status.specs.declared.status.Status.TheVariants as statuses
use Rattle.exit_status.specs.Statuses.{status_of, answer_status, end_without_numbers}
use Rattle.exit_status.specs.Lines.{end_line, status_line}
use Rattle.snd_host.specs.History.{given_of, ended_of, in_faults, note_faults, out_faults}
use Rattle.run_laws.specs.Left.{Leaves, LeavesNothing, LeavesAll, LeavesPart, ReportsLast, Complains, NoneRose}
use Rattle.exit_status.proofs.Ends.{IsEnd, plain_is, line_end, same_end}
use Rattle.run_laws.proofs.Counting.{Counts, counts_of, Standing, standing, note_counts, note_left, note_cut_counts, note_cut_left, no_cut_of_none}
use Rattle.run_laws.proofs.Making.{grown, grown_none}
use Rattle.run_laws.proofs.Ending.{Stands, faulted, faulted_note, faulted_inputs, faulted_outputs, is_end, names_input, end_counts, end_stands, end_leaves_nothing, cut_accepted}

-- A run makes these calls: m outputs were created before it.
pub record RunBy (order : Order) (answer : Held → Answer Cause) (inputs : List NamedInput) (m : ℕ) (status : Status) (old new : List Call) : Type 0 where
  pub refusal : Option (Refusal Cause)
  pub status_is : status ≡ status_of refusal
  pub given : List (List ℕ)
  pub taken : List Call
  pub made : List Call
  pub note : List Call
  pub since : new ≡ pushed (taken ++ made ++ note) old
  pub ends : EndsBy order answer inputs refusal (m + 2) given taken made
  pub complaint : AreNoted (end_line refusal) note

-- The complaint.

noted_left : (line : List ℕ) (note history : List Call) → AreNoted line note → standing (pushed note history) ≡ standing history
noted_left line note history (inl writes) = note_left line note history writes
noted_left line note history (inr cut) = note_cut_left line note history cut

-- What a line of complaint comes to: so much of it, with its count.
record Complained (line : List ℕ) (before now : Counts) : Type 0 where
  complaint : List ℕ
  inputs : now.inputs ≡ before.inputs
  outputs : now.outputs ≡ before.outputs
  grew : now.complaint ≡ before.complaint ++ complaint
  part : IsPrefix complaint line
  all : (Rose before.notes now.notes → ⊥) → complaint ≡ line
  once : (now.notes ≡ before.notes) ⊎ (now.notes ≡ next_count before.notes)
  none : line ≡ [] → now.notes ≡ before.notes

noted_counts : (line : List ℕ) (note history : List Call) → AreNoted line note → Complained line (counts_of history) (counts_of (pushed note history))
noted_counts line note history (inl writes) =
    subst (Complained line (counts_of history)) (sym (note_counts line note history writes)) (record {
      complaint = line;
      inputs = refl;
      outputs = refl;
      grew = refl;
      part = record { rest = []; split = append-nil line };
      all = λ not_risen. refl;
      once = inl refl;
      none = λ empty. refl;
    })
noted_counts line note history (inr cut) =
    subst (Complained line (counts_of history)) (sym (note_cut_counts line note history cut)) (record {
      complaint = bytes_written cut.done;
      inputs = refl;
      outputs = refl;
      grew = refl;
      part = record { rest = bytes_written (cut.call ∷ cut.rest); split = sym (bytes_more cut.done (cut.call ∷ cut.rest)) ∙ cut.whole.joined };
      all = λ not_risen. absurd (not_risen (rose (note_faults history) _ refl));
      once = inr refl;
      none = λ empty. absurd (no_cut_of_none 1 note (subst (λ (l : List ℕ). IsCut (AreWrites 1 l) note) empty cut));
    })

-- The laws.

module _ (order : Order) (answer : Held → Answer Cause) (inputs : List NamedInput) (m : ℕ) (status : Status) (old new : List Call) (run : RunBy order answer inputs m status old new) where
  abbrev pub answered : Answer Cause
  answered = answer (held_of run.given)

  -- before the complaint
  abbrev attempted : List Call
  attempted = pushed (run.taken ++ run.made) old

  high : 2 ≤ m + 2
  high = omega arith

  new_is : new ≡ pushed run.note attempted
  new_is = run.since ∙ pushed_more (run.taken ++ run.made) run.note old

  end : IsEnd run.refusal answered
  end = is_end order answer inputs (m + 2) run.given run.taken run.made old run.refusal run.ends

  -- The end that a status without numbers stands for is that of the run.
  end_of : (p : Option (Refusal Cause)) (s : Status) → end_without_numbers s ≡ Some p → status ≡ s → run.refusal ≡ p
  end_of p s plain same = plain_is run.refusal p (ap end_without_numbers (sym run.status_is ∙ same) ∙ plain)

  status_is : (p : Option (Refusal Cause)) → run.refusal ≡ p → status ≡ status_of p
  status_is p same = run.status_is ∙ ap status_of same

  complains_of : Complained (end_line run.refusal) (counts_of attempted) (counts_of (pushed run.note attempted))
  complains_of = noted_counts (end_line run.refusal) run.note attempted run.complaint

  counts : counts_of attempted ≡ faulted run.refusal (counts_of old)
  counts = end_counts order answer inputs (m + 2) run.given run.taken run.made old run.refusal high run.ends

  left : standing new ≡ standing attempted
  left = ap standing new_is ∙ noted_left (end_line run.refusal) run.note attempted run.complaint

  stands : m ≡ length (ended_of old) → Stands answered run.refusal (standing old) (standing attempted)
  stands flags = end_stands order answer inputs (m + 2) run.given run.taken run.made old run.refusal high (ap (λ (k : ℕ). k + 2) flags) run.ends

  leaves : (report : List ℕ) (outputs : List Output) (flags : List Bool) → standing attempted ≡ grown report outputs flags (standing old) → Leaves report outputs flags old new
  leaves report outputs flags is =
      let all = left ∙ is in
      record { report = ap (λ (s : Standing). s.report) all; created = ap (λ (s : Standing). s.created) all; ended = ap (λ (s : Standing). s.ended) all }

  -- Content.

  pub settled_leaves_all : m ≡ length (ended_of old) → status ≡ answer_status answered → LeavesAll answered old new
  settled_leaves_all flags same =
      let s = stands flags in
      let are = s.settled (same_end run.refusal answered end (sym run.status_is ∙ same)) in
      subst (λ (l : List ℕ). Leaves l (outputs_of answered) (all_ended (outputs_of answered)) old new) are.0
      (subst (λ (l : List Output). Leaves s.reported l (all_ended (outputs_of answered)) old new) are.1
      (subst (λ (l : List Bool). Leaves s.reported s.begun l old new) are.2 (leaves s.reported s.begun s.flags s.left)))

  pub report_last : m ≡ length (ended_of old) → ReportsLast answered old new
  report_last flags grew =
      let s = stands flags in
      let l = leaves s.reported s.begun s.flags s.left in
      let are = s.report_last (λ none. grew (l.report ∙ ap (λ (r : List ℕ). (given_of old).report ++ r) none ∙ append-nil (given_of old).report)) in
      (l.created ∙ ap (λ (os : List Output). (given_of old).created ++ os) are.0, l.ended ∙ ap (λ (fs : List Bool). ended_of old ++ fs) are.1)

  -- Where nothing was delivered.
  pub refused_leaves_nothing : status ≢ statuses.Ok → status ≢ statuses.WriteFault → LeavesNothing old new
  refused_leaves_nothing not_ok not_write =
      leaves [] [] []
      (end_leaves_nothing order answer inputs (m + 2) run.given run.taken run.made old run.refusal (λ none. not_ok (status_is None none)) (λ write. not_write (status_is (Some WriteFault) write)) run.ends ∙ sym (grown_none (standing old)))

  -- The complaint.

  pub line_is : status_line status answered ≡ end_line run.refusal
  line_is = ap end_line (ap (λ (s : Status). unwrap_or (end_without_numbers s) (refusal_of answered)) run.status_is ∙ line_end run.refusal answered end)

  notes_before : note_faults attempted ≡ note_faults old
  notes_before = ap (λ (c : Counts). c.notes) counts ∙ (faulted_note run.refusal (counts_of old)).0

  complaint_before : (given_of attempted).complaint ≡ (given_of old).complaint
  complaint_before = ap (λ (c : Counts). c.complaint) counts ∙ (faulted_note run.refusal (counts_of old)).1

  pub complains : Complains (status_line status answered) old new
  complains = subst (λ (l : List Call). Complains (status_line status answered) old l) (sym new_is) (subst (λ (line : List ℕ). Complains line old (pushed run.note attempted)) (sym line_is) (record {
    complaint = complains_of.complaint;
    given = complains_of.grew ∙ ap (λ (l : List ℕ). l ++ complains_of.complaint) complaint_before;
    part = complains_of.part;
    all = λ not_risen. complains_of.all (λ risen. not_risen (subst (λ (k : ℕ). Rose k (note_faults (pushed run.note attempted))) notes_before risen));
    once = once complains_of.once;
  }))
    where
      once : (note_faults (pushed run.note attempted) ≡ note_faults attempted) ⊎ (note_faults (pushed run.note attempted) ≡ next_count (note_faults attempted)) → (note_faults (pushed run.note attempted) ≡ note_faults old) ⊎ (note_faults (pushed run.note attempted) ≡ next_count (note_faults old))
      once (inl same) = inl (same ∙ notes_before)
      once (inr one) = inr (one ∙ ap next_count notes_before)

  -- Where no write of it failed, the count of notes is what it was.
  pub notes_kept : (IsCut (AreWrites 1 (end_line run.refusal)) run.note → ⊥) → note_faults new ≡ note_faults old
  notes_kept not_cut = by run.complaint
    where
      by : AreNoted (end_line run.refusal) run.note → note_faults new ≡ note_faults old
      by (inl writes) = ap note_faults new_is ∙ ap (λ (c : Counts). c.notes) (note_counts (end_line run.refusal) run.note attempted writes) ∙ notes_before
      by (inr cut) = absurd (not_cut cut)

  -- Counts.

  inputs_count : in_faults new ≡ (faulted run.refusal (counts_of old)).inputs
  inputs_count = ap in_faults new_is ∙ complains_of.inputs ∙ ap (λ (c : Counts). c.inputs) counts

  outputs_count : out_faults new ≡ (faulted run.refusal (counts_of old)).outputs
  outputs_count = ap out_faults new_is ∙ complains_of.outputs ∙ ap (λ (c : Counts). c.outputs) counts

  pub unread : status ≢ statuses.ReadFault → in_faults new ≡ in_faults old
  unread other = inputs_count ∙ faulted_inputs run.refusal (counts_of old) (λ is. other (status_is (Some ReadFault) is))

  pub unwritten : status ≢ statuses.WriteFault → out_faults new ≡ out_faults old
  unwritten other = outputs_count ∙ faulted_outputs run.refusal (counts_of old) (λ is. other (status_is (Some WriteFault) is))

  pub ok_keeps_counts : status ≡ statuses.Ok → KeepsCounts old new
  ok_keeps_counts same =
      let none = end_of None statuses.Ok refl same in
      record {
        inputs = unread (λ is. absurd (cc));
        notes = ap note_faults new_is ∙ complains_of.none (ap end_line none) ∙ notes_before;
        outputs = unwritten (λ is. absurd (cc));
      }

  pub read_fault_counts : status ≡ statuses.ReadFault → in_faults new ≡ next_count (in_faults old)
  read_fault_counts same = inputs_count ∙ ap (λ (r : Option (Refusal Cause)). (faulted r (counts_of old)).inputs) (end_of (Some ReadFault) statuses.ReadFault refl same)

  pub read_fault_names_input : status ≡ statuses.ReadFault → IsTrue (are_some inputs)
  read_fault_names_input same =
      let ends = subst (λ (r : Option (Refusal Cause)). EndsBy order answer inputs r (m + 2) run.given run.taken run.made) (end_of (Some ReadFault) statuses.ReadFault refl same) run.ends in
      names_input order answer inputs (m + 2) run.given run.taken run.made old inputs ends.0

  pub write_fault_counts : status ≡ statuses.WriteFault → out_faults new ≡ next_count (out_faults old)
  write_fault_counts same = outputs_count ∙ ap (λ (r : Option (Refusal Cause)). (faulted r (counts_of old)).outputs) (end_of (Some WriteFault) statuses.WriteFault refl same)

  pub write_fault_accepted : status ≡ statuses.WriteFault → answer_status answered ≡ statuses.Ok
  write_fault_accepted same = ap status_of (cut_accepted order answer inputs (m + 2) run.given run.taken run.made old run.refusal (end_of (Some WriteFault) statuses.WriteFault refl same) run.ends)

  pub write_fault_leaves_part : m ≡ length (ended_of old) → status ≡ statuses.WriteFault → LeavesPart answered old new
  write_fault_leaves_part flags same =
      let s = stands flags in
      let is = end_of (Some WriteFault) statuses.WriteFault refl same in
      record {
        report = s.reported;
        outputs = s.begun;
        flags = s.flags;
        leaves = leaves s.reported s.begun s.flags s.left;
        reported = s.prefix is;
        begun = s.begins is;
        ended_whole = s.ended_whole is;
        in_order = s.in_order is;
      }

  -- Status.

  pub truthful : (status ≡ answer_status answered) ⊎ ((status ≡ statuses.ReadFault) ⊎ ((status ≡ statuses.WriteFault) ⊎ (status ≡ statuses.OutOfMemory)))
  truthful = by end
    where
      by : IsEnd run.refusal answered → (status ≡ answer_status answered) ⊎ ((status ≡ statuses.ReadFault) ⊎ ((status ≡ statuses.WriteFault) ⊎ (status ≡ statuses.OutOfMemory)))
      by (inl same) = inl (status_is (refusal_of answered) same)
      by (inr (inl same)) = inr (inl (status_is (Some ReadFault) same))
      by (inr (inr (inl same))) = inr (inr (inl (status_is (Some WriteFault) same)))
      by (inr (inr (inr same))) = inr (inr (inr (status_is (Some OutOfMemory) same)))

  pub completes : NoneRose old new → (status ≡ answer_status answered) ⊎ (status ≡ statuses.OutOfMemory)
  completes none_rose = by truthful
    where
      by : (status ≡ answer_status answered) ⊎ ((status ≡ statuses.ReadFault) ⊎ ((status ≡ statuses.WriteFault) ⊎ (status ≡ statuses.OutOfMemory))) → (status ≡ answer_status answered) ⊎ (status ≡ statuses.OutOfMemory)
      by (inl same) = inl same
      by (inr (inl same)) = absurd (none_rose.inputs (rose (in_faults old) (in_faults new) (read_fault_counts same)))
      by (inr (inr (inl same))) = absurd (none_rose.outputs (rose (out_faults old) (out_faults new) (write_fault_counts same)))
      by (inr (inr (inr same))) = inr same
