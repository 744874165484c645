-- The calls that a command makes, by how it ends. `answer` is what it answers, by what its inputs hold, in their order.
use Rattle.std.specs.Prelude.{◌≡◌, ◌+◌, ◌⊎◌, ℕ, List, ◌++◌, length, Option, Some, None}
use Rattle.snd_host.specs.Calls.{Call}
use Rattle.snd_host.specs.History.{ended_of}
use Rattle.snd_host.specs.Host.{HostState}
use Rattle.snd_host.specs.Follows.{Since, IsCut, IsBegun, AreWrites}
use Rattle.command_runner.specs.Answer.{Answer, done, refused}
use Rattle.command_runner.specs.InOrder.{NoCalls}
use Rattle.command_runner.specs.NamedInputs.{NamedInput, Held, held_of, TakesInOrder}
use Rattle.command_runner.specs.OutputCalls.{Order, DeliversAs}
use Rattle.command_runner.specs.declared.refusals.Refusal.{Refusal}
use Rattle.command_runner.specs.declared.refusals.Refusal.TheVariants.{ReadFault, WriteFault, OutOfMemory, Input}

-- How the calls for inputs end with this refusal: cut where one failed, begun where memory was wanting, or all of them were made, and then this holds
-- of what they gave. No other refusal comes of them.
abbrev pub EndsRefused : {C : Type 0} → (Does : List Call → Type 0) → (Holds : Type 0) → Refusal C → (taken : List Call) → Type 0
EndsRefused Does Holds ReadFault taken = IsCut Does taken
EndsRefused Does Holds OutOfMemory taken = IsBegun Does taken
EndsRefused Does Holds (Input cause) taken = Does taken × Holds
EndsRefused Does Holds why taken = ⊥

-- The outputs of the answer are made, the first of which gets the number n, and then its report is written.
abbrev pub DeliversAnswer : {C : Type 0} → Order → (n : ℕ) → Answer C → List Call → Type 0
DeliversAnswer order n (done outputs report) made = DeliversAs order n outputs report made
DeliversAnswer order n (refused why) made = ⊥

-- How a command ends: what its end says of the calls for its inputs, which gave these bytes, and of those for the outputs and the report.
abbrev pub EndsBy : {C : Type 0} → Order → (answer : Held → Answer C) → List NamedInput → Option (Refusal C) → (n : ℕ) → (given : List (List ℕ))
    → (taken made : List Call) → Type 0
EndsBy order answer inputs None n given taken made =
    TakesInOrder inputs given taken × DeliversAnswer order n (answer (held_of given)) made
EndsBy order answer inputs (Some WriteFault) n given taken made =
    TakesInOrder inputs given taken × IsCut (DeliversAnswer order n (answer (held_of given))) made
EndsBy order answer inputs (Some ReadFault) n given taken made = IsCut (TakesInOrder inputs given) taken × NoCalls made
EndsBy order answer inputs (Some OutOfMemory) n given taken made = IsBegun (TakesInOrder inputs given) taken × NoCalls made
EndsBy order answer inputs (Some why) n given taken made =
    TakesInOrder inputs given taken × (answer (held_of given) ≡ refused why) × NoCalls made

-- A command makes the calls for its inputs, then those for its outputs and its report, and no others.
pub record AttemptsBy {C : Type 0} (order : Order) (answer : Held → Answer C) (inputs : List NamedInput) (refusal : Option (Refusal C))
    (old new : HostState) : Type 0 where
  -- the bytes that the inputs gave
  pub given : List (List ℕ)
  pub taken : List Call
  pub made : List Call
  pub since : Since (taken ++ made) old new
  pub ends : EndsBy order answer inputs refusal (length (ended_of old.calls) + 2) given taken made

-- The line of complaint is written, or a write of it fails and is the last.
abbrev pub AreNoted : (line : List ℕ) → List Call → Type 0
AreNoted line note = AreWrites 1 line note ⊎ IsCut (AreWrites 1 line) note

-- So much of the line as this was written, and no other call was made.
pub record NotesLine (line : List ℕ) (old new : HostState) : Type 0 where
  pub note : List Call
  pub since : Since note old new
  pub noted : AreNoted line note
