-- How a command makes its plan and carries it out. `answer` is what it answers, by what its inputs hold, in their order.
use Rattle.std.specs.Prelude.{◌≡◌, ◌+◌, ◌⊎◌, ℕ, List, length, Option, Some, Result, Ok, Err, IfOk, IfErr}
use Rattle.snd_host.specs.Calls.{Call}
use Rattle.snd_host.specs.Follows.{Since, Follows}
use Rattle.snd_host.specs.History.{ended_of}
use Rattle.snd_host.specs.Host.{HostState, Output}
use Rattle.snd_host.specs.declared.host.Failed.{Failed}
use Rattle.command_runner.specs.Answer.{Answer, done, refused, delivery_refusal}
use Rattle.command_runner.specs.NamedInputs.{NamedInput, Held, held_of, TakesInOrder}
use Rattle.command_runner.specs.OutputCalls.{Order, DeliversAs}
use Rattle.command_runner.specs.RunCalls.{EndsRefused}
use Rattle.command_runner.specs.declared.refusals.Refusal.{Refusal}
use Rattle.command_runner.specs.declared.refusals.Refusal.TheVariants.{Usage, ReadFault, WriteFault, OutOfMemory}

-- the outputs and the report that a plan makes
pub record Delivery : Type 0 where
  pub outputs : List Output
  pub report : List ℕ

-- A plan does what the answer says, or it is refused as the answer says, or memory was wanting.
pub record Plans {P C : Type 0} (makes : P → Delivery) (answer : Answer C) (result : Result P (Refusal C)) : Type 0 where
  pub ok : IfOk result (λ plan. answer ≡ done (makes plan).outputs (makes plan).report)
  pub err : IfErr result (λ refusal. (answer ≡ refused refusal) ⊎ (refusal ≡ OutOfMemory))
  pub no_usage : result ≡ Err Usage → ⊥
  pub no_read : result ≡ Err ReadFault → ⊥
  pub no_write : result ≡ Err WriteFault → ⊥

-- How the calls for inputs ended that gave these bytes: all were made, and the plan is what is answered by the bytes, or there is none.
abbrev pub EndsPrepared : {P C : Type 0} → (makes : P → Delivery) → (answer : Held → Answer C) → List NamedInput → Result P (Refusal C)
    → (given : List (List ℕ)) → (taken : List Call) → Type 0
EndsPrepared makes answer inputs (Ok plan) given taken =
    TakesInOrder inputs given taken × (answer (held_of given) ≡ done (makes plan).outputs (makes plan).report)
EndsPrepared makes answer inputs (Err why) given taken =
    EndsRefused (TakesInOrder inputs given) (answer (held_of given) ≡ refused why) why taken

-- The calls for inputs were made, and no others.
pub record PreparesBy {P C : Type 0} (makes : P → Delivery) (answer : Held → Answer C) (inputs : List NamedInput) (old new : HostState)
    (result : Result P (Refusal C)) : Type 0 where
  pub given : List (List ℕ)
  pub taken : List Call
  pub since : Since taken old new
  pub ends : EndsPrepared makes answer inputs result given taken

-- The outputs of a delivery are made in this order, and then its report is written; the refusal says how that ended.
abbrev pub IsDelivered : {C : Type 0} → Order → Delivery → (old new : HostState) → Option (Refusal C) → Type 0
IsDelivered order delivery old new refusal =
    (outcome : Result (Unit {0}) Failed) × (refusal ≡ delivery_refusal outcome)
    × Follows (DeliversAs order (length (ended_of old.calls) + 2) delivery.outputs delivery.report) old new outcome

-- A plan is carried out, its outputs made in this order, or there is none and no call is made.
pub record CarriesOut {P C : Type 0} (order : Order) (makes : P → Delivery) (prepared : Result P (Refusal C)) (old new : HostState)
    (refusal : Option (Refusal C)) : Type 0 where
  pub ok : IfOk prepared (λ plan. IsDelivered order (makes plan) old new refusal)
  pub err : IfErr prepared (λ why. (refusal ≡ Some why) × (new ≡ old))
