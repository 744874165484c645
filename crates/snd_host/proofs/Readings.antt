-- What the calls that read an input come to. Opens and reads count no fault and leave all rooms; one that failed is counted, and leaves all rooms too.
use Rattle.std.proofs.Common.{◌≡◌, ℕ, List, ◌∷◌, Some, refl, ap, ◌∙◌}
use Rattle.std.specs.Prelude.{Result, Ok, Err, Vec}
use Rattle.std.specs.List.{AllByRecursion}
use Rattle.std.specs.declared.alloc.Global.{Global}
use Rattle.snd_host.specs.Calls.{Call}
use Rattle.snd_host.specs.Host.{HostState, IfKnown, next_count}
use Rattle.snd_host.specs.History.{in_faults, note_faults, out_faults}
use Rattle.snd_host.specs.Follows.{pushed, failure_of, IsCut, IsBegun, KeepsCounts, CountsInput}
use Rattle.snd_host.specs.Takes.{Takes, ReadsWhole, ComesOut}
use Rattle.snd_host.specs.declared.calls.ReadRefusal.{ReadRefusal}
use Rattle.snd_host.specs.declared.calls.ReadRefusal.TheVariants.{Failed, TooLong, OutOfMemory}
use Rattle.snd_host.proofs.EachCall.{Each, all_first, one_of, each_of_cut, each_of_front}
use Rattle.snd_host.proofs.EachTaken.{each_taken}
use Rattle.snd_host.proofs.Kept.{Keeps, kept, cut_is, kept_cut, kept_begun}
use Rattle.snd_host.proofs.RoomsLeft.{Leaves, rooms_as_they_are, left, failure_leaves}

module _ (name : List ℕ) (limit : ℕ) (bytes : List ℕ) where
  keep_inputs : Each (Keeps in_faults) (Takes name limit bytes)
  keep_inputs = each_taken (Keeps in_faults) (λ name file history. refl) (λ file room bytes history. refl) name limit bytes

  keep_notes : Each (Keeps note_faults) (Takes name limit bytes)
  keep_notes = each_taken (Keeps note_faults) (λ name file history. refl) (λ file room bytes history. refl) name limit bytes

  keep_outputs : Each (Keeps out_faults) (Takes name limit bytes)
  keep_outputs = each_taken (Keeps out_faults) (λ name file history. refl) (λ file room bytes history. refl) name limit bytes

  pub reading_counts_nothing : (calls before : List Call) → Takes name limit bytes calls → KeepsCounts before (pushed calls before)
  reading_counts_nothing calls before takes = record {
    inputs = kept in_faults calls before (keep_inputs calls takes);
    notes = kept note_faults calls before (keep_notes calls takes);
    outputs = kept out_faults calls before (keep_outputs calls takes);
  }

  pub begun_counts_nothing : (calls before : List Call) → IsBegun (Takes name limit bytes) calls → KeepsCounts before (pushed calls before)
  begun_counts_nothing calls before begun = record {
    inputs = kept_begun in_faults (Takes name limit bytes) keep_inputs calls before begun;
    notes = kept_begun note_faults (Takes name limit bytes) keep_notes calls before begun;
    outputs = kept_begun out_faults (Takes name limit bytes) keep_outputs calls before begun;
  }

  abbrev IsCounted : Call → Type 0
  IsCounted call = (history : List Call) → in_faults (failure_of call ∷ history) ≡ next_count (in_faults history)

  failure_counts : Each IsCounted (Takes name limit bytes)
  failure_counts = each_taken IsCounted (λ name file history. refl) (λ file room bytes history. refl) name limit bytes

  failure_keeps_notes : Each (λ call. Keeps note_faults (failure_of call)) (Takes name limit bytes)
  failure_keeps_notes = each_taken (λ call. Keeps note_faults (failure_of call)) (λ name file history. refl) (λ file room bytes history. refl) name limit bytes

  failure_keeps_outputs : Each (λ call. Keeps out_faults (failure_of call)) (Takes name limit bytes)
  failure_keeps_outputs = each_taken (λ call. Keeps out_faults (failure_of call)) (λ name file history. refl) (λ file room bytes history. refl) name limit bytes

  pub cut_counts_once : (calls before : List Call) → IsCut (Takes name limit bytes) calls → CountsInput before (pushed calls before)
  cut_counts_once calls before cut = record {
    inputs = cut_is in_faults (Takes name limit bytes) calls before cut
        ∙ one_of IsCounted cut.done cut.rest cut.call (failure_counts _ cut.whole) (pushed cut.done before)
        ∙ ap next_count (kept in_faults cut.done before (all_first (Keeps in_faults) cut.done (cut.call ∷ cut.rest) (keep_inputs _ cut.whole)));
    notes = kept_cut note_faults (Takes name limit bytes) keep_notes failure_keeps_notes calls before cut;
    outputs = kept_cut out_faults (Takes name limit bytes) keep_outputs failure_keeps_outputs calls before cut;
  }

  leave_rooms : Each (Leaves rooms_as_they_are) (Takes name limit bytes)
  leave_rooms = each_taken (Leaves rooms_as_they_are) (λ name file rooms. refl) (λ file room bytes rooms. refl) name limit bytes

each_leaves : (name : List ℕ) (limit : ℕ) (calls : List Call) (result : Result (Vec ℕ Global) ReadRefusal) → ComesOut name limit calls result → AllByRecursion (Leaves rooms_as_they_are) calls
each_leaves name limit calls (Ok bytes) comes = leave_rooms name limit bytes.items calls comes
each_leaves name limit calls (Err TooLong) comes = leave_rooms name limit comes.0 calls comes.1
each_leaves name limit calls (Err Failed) comes = each_of_cut (Leaves rooms_as_they_are) (Takes name limit comes.0) (failure_leaves rooms_as_they_are) (leave_rooms name limit comes.0) calls comes.1
each_leaves name limit calls (Err OutOfMemory) comes = each_of_front (Leaves rooms_as_they_are) (Takes name limit comes.0) (leave_rooms name limit comes.0) calls comes.1

pub stays_steady : (name : List ℕ) (limit : ℕ) (old new : HostState) (result : Result (Vec ℕ Global) ReadRefusal) → ReadsWhole name limit old new result → IfKnown old.steady (λ rooms. new.steady ≡ Some rooms)
stays_steady name limit old new result reads rooms known =
    (reads.since.steady rooms known).1 ∙ ap (λ (l : List ℕ). Some l) (left rooms_as_they_are reads.calls rooms (each_leaves name limit reads.calls result reads.comes))
