-- The calls for inputs leave all rooms, and those for outputs and the report leave the room of the complaint: they write nothing to it.
use Rattle.std.proofs.Common.{◌≡◌, ℕ, ◌≤◌, List, [], ◌++◌, Some, None, refl, sym, ap, ◌∙◌, subst}
use Rattle.std.specs.Prelude.{Option, slice_index}
use Rattle.std.specs.List.{AllByRecursion}
use Rattle.snd_host.specs.Calls.{Call}
use Rattle.command_runner.specs.Answer.{Answer}
use Rattle.command_runner.specs.NamedInputs.{NamedInput, Held, held_of, TakesInOrder}
use Rattle.command_runner.specs.OutputCalls.{Order}
use Rattle.command_runner.specs.RunCalls.{DeliversAnswer, EndsBy}
use Rattle.command_runner.specs.declared.refusals.Refusal.{Refusal}
use Rattle.command_runner.specs.declared.refusals.Refusal.TheVariants.{Usage, ReadFault, WriteFault, OutOfMemory, Input}
use Rattle.snd_host.proofs.EachCall.{Each, each_of_cut, each_of_front}
use Rattle.snd_host.proofs.CallsInOrder.{rooms_over-append}
use Rattle.snd_host.proofs.RoomsLeft.{Leaves, rooms_as_they_are, left, failure_leaves}
use Rattle.snd_host.specs.History.{rooms_over}
use Rattle.command_runner.proofs.EachCall.{each_for_inputs, each_for_outputs}
use Rattle.run_laws.proofs.Counting.{no_complaint}
use Rattle.run_laws.proofs.Rooms.{index-rooms_less_other}

-- the room of the complaint
abbrev room_of_complaint : List ℕ → ℕ
room_of_complaint rooms = slice_index rooms 1

inputs_leave : (inputs : List NamedInput) (given : List (List ℕ)) → Each (Leaves rooms_as_they_are) (TakesInOrder inputs given)
inputs_leave = each_for_inputs (Leaves rooms_as_they_are) (λ name file rooms. refl) (λ file room bytes rooms. refl)

outputs_leave : {C : Type 0} (order : Order) (n : ℕ) (a : Answer C) → 2 ≤ n → Each (Leaves room_of_complaint) (DeliversAnswer order n a)
outputs_leave order n a high =
    each_for_outputs (Leaves room_of_complaint) n (λ name file rooms. refl) (λ file bytes number some rooms. index-rooms_less_other rooms file 1 _ (λ same. no_complaint n file high number (sym same))) (λ file rooms. refl) order a

module _ {C : Type 0} (order : Order) (answer : Held → Answer C) (inputs : List NamedInput) (n : ℕ) (given : List (List ℕ)) (taken made : List Call) where
  abbrev Taking : List Call → Type 0
  Taking = TakesInOrder inputs given

  abbrev Delivers : List Call → Type 0
  Delivers = DeliversAnswer order n (answer (held_of given))

  taken_leave : (r : Option (Refusal C)) → EndsBy order answer inputs r n given taken made → AllByRecursion (Leaves rooms_as_they_are) taken
  taken_leave None ends = inputs_leave inputs given taken ends.0
  taken_leave (Some WriteFault) ends = inputs_leave inputs given taken ends.0
  taken_leave (Some ReadFault) ends = each_of_cut (Leaves rooms_as_they_are) Taking (failure_leaves rooms_as_they_are) (inputs_leave inputs given) taken ends.0
  taken_leave (Some OutOfMemory) ends = each_of_front (Leaves rooms_as_they_are) Taking (inputs_leave inputs given) taken ends.0
  taken_leave (Some Usage) ends = inputs_leave inputs given taken ends.0
  taken_leave (Some (Input cause)) ends = inputs_leave inputs given taken ends.0

  no_calls_leave : made ≡ [] → AllByRecursion (Leaves room_of_complaint) made
  no_calls_leave none = subst (AllByRecursion (Leaves room_of_complaint)) (sym none) tt

  made_leave : (r : Option (Refusal C)) → 2 ≤ n → EndsBy order answer inputs r n given taken made → AllByRecursion (Leaves room_of_complaint) made
  made_leave None high ends = outputs_leave order n (answer (held_of given)) high made ends.1
  made_leave (Some WriteFault) high ends = each_of_cut (Leaves room_of_complaint) Delivers (failure_leaves room_of_complaint) (outputs_leave order n (answer (held_of given)) high) made ends.1
  made_leave (Some ReadFault) high ends = no_calls_leave ends.1
  made_leave (Some OutOfMemory) high ends = no_calls_leave ends.1
  made_leave (Some Usage) high ends = no_calls_leave ends.2
  made_leave (Some (Input cause)) high ends = no_calls_leave ends.2

  pub rooms_over-taken : (r : Option (Refusal C)) (rooms : List ℕ) → EndsBy order answer inputs r n given taken made → rooms_over taken rooms ≡ rooms
  rooms_over-taken r rooms ends = left rooms_as_they_are taken rooms (taken_leave r ends)

  pub complaint_room_kept : (r : Option (Refusal C)) (rooms : List ℕ) → 2 ≤ n → EndsBy order answer inputs r n given taken made → slice_index (rooms_over (taken ++ made) rooms) 1 ≡ slice_index rooms 1
  complaint_room_kept r rooms high ends =
      ap (λ (l : List ℕ). slice_index l 1) (rooms_over-append taken made rooms ∙ ap (rooms_over made) (rooms_over-taken r rooms ends)) ∙ left room_of_complaint made rooms (made_leave r high ends)
