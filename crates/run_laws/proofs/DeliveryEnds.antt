-- On a steady host with room no command ends with an output that couldn't be written: the calls for its inputs leave the rooms and the number of outputs
-- as they are, so its delivery begins with room for all of it.
use Rattle.std.proofs.Common.{◌≡◌, ℕ, ◌+◌, ◌≤◌, List, ◌++◌, Some, length, refl, sym, ap, ◌∙◌, subst}
use Rattle.std.specs.Prelude.{Option, slice_index}
use Rattle.snd_host.specs.Calls.{Call}
use Rattle.snd_host.specs.Host.{Files}
use Rattle.snd_host.specs.Follows.{pushed, IsCut}
use Rattle.command_runner.specs.Answer.{Answer, done, refused, outputs_of, report_of}
use Rattle.command_runner.specs.Delivery.{HaveRooms}
use Rattle.command_runner.specs.NamedInputs.{NamedInput, Held, held_of, TakesInOrder}
use Rattle.command_runner.specs.OutputCalls.{Order}
use Rattle.command_runner.specs.RunCalls.{DeliversAnswer, EndsBy}
use Rattle.command_runner.specs.declared.refusals.Refusal.TheVariants.{WriteFault}
use Rattle.snd_host.specs.History.{ended_of, AreSteadyCalls}
use Rattle.run_laws.proofs.Delivering.{delivery_not_cut}
use Rattle.command_runner.proofs.EachCall.{each_for_inputs}
use Rattle.snd_host.proofs.Kept.{Keeps, kept}
use Rattle.run_laws.proofs.RoomsKept.{rooms_over-taken}
use Rattle.run_laws.proofs.Steadily.{AreSteadyCalls-append}

ended_of-taken : (inputs : List NamedInput) (given : List (List ℕ)) (taken history : List Call) → TakesInOrder inputs given taken → ended_of (pushed taken history) ≡ ended_of history
ended_of-taken inputs given taken history takes = kept ended_of taken history (each_for_inputs (Keeps ended_of) (λ name file history. refl) (λ file room bytes history. refl) inputs given taken takes)

answer_not_cut : {C : Type 0} (holds : Option Files) (order : Order) (n : ℕ) (rooms : List ℕ) (a : Answer C) (history made : List Call) → HaveRooms (outputs_of a) rooms n → length (report_of a) ≤ slice_index rooms 0 →
    n ≡ length (ended_of history) + 2 → IsCut (DeliversAnswer order n a) made → AreSteadyCalls holds rooms history made → ⊥
answer_not_cut holds order n rooms (done outputs report) history made have fits is cut steady = delivery_not_cut holds order n rooms outputs report history made have fits is cut steady
answer_not_cut holds order n rooms (refused why) history made have fits is cut steady = absurd cut.whole

pub no_write_fault : {C : Type 0} (holds : Option Files) (order : Order) (answer : Held → Answer C) (inputs : List NamedInput) (n : ℕ) (given : List (List ℕ)) (taken made : List Call) (rooms : List ℕ) (history : List Call) →
    HaveRooms (outputs_of (answer (held_of given))) rooms n → length (report_of (answer (held_of given))) ≤ slice_index rooms 0 → n ≡ length (ended_of history) + 2 →
    EndsBy order answer inputs (Some WriteFault) n given taken made → AreSteadyCalls holds rooms history (taken ++ made) → ⊥
no_write_fault holds order answer inputs n given taken made rooms history have fits is ends steady =
    let parts = AreSteadyCalls-append holds rooms history taken made steady in
    answer_not_cut holds order n rooms (answer (held_of given)) (pushed taken history) made have fits (is ∙ ap (λ flags. length flags + 2) (sym (ended_of-taken inputs given taken history ends.0))) ends.1
    (subst (λ (l : List ℕ). AreSteadyCalls holds l (pushed taken history) made) (rooms_over-taken order answer inputs n given taken made (Some WriteFault) rooms ends) parts.1)
