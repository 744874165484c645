-- What calls do, in their order.
use Rattle.std.specs.Prelude.{◌≡◌, ◌≢◌, ℕ, List, [], ◌∷◌, ◌++◌, Some, Result, Ok, Err}
use Rattle.std.specs.List.{AllByRecursion}
use Rattle.snd_host.specs.Calls.{Call, opened, not_opened, read, not_read, created, not_created, wrote, not_written, finished, not_finished}
use Rattle.snd_host.specs.Host.{HostState, IfKnown, IsPrefix, given_with, next_count}
use Rattle.snd_host.specs.History.{given_of, in_faults, note_faults, out_faults, IsTrueOf, AreTrueOf, IsSteadyCall, AreSteadyCalls, rooms_after, rooms_over}

-- calls in their order, after those before, whose newest is the first
abbrev pub pushed : List Call → (before : List Call) → List Call
pushed [] before = before
pushed (call ∷ calls) before = pushed calls (call ∷ before)

-- A call was made: it is the newest, what the names hold stays, and it agrees with that, and with what a steady host does.
pub record Makes (call : Call) (old new : HostState) : Type 0 where
  pub calls : new.calls ≡ call ∷ old.calls
  pub holds : new.holds ≡ old.holds
  pub true : IfKnown old.holds (λ files. IsTrueOf files old.calls call)
  pub steady : IfKnown old.steady (λ rooms. IsSteadyCall old.holds rooms old.calls call × (new.steady ≡ Some (rooms_after call rooms)))

-- Since the old state these calls were made, in this order, and no others. What the names hold stays, and the calls agree with that, and with what a
-- steady host does.
pub record Since (made : List Call) (old new : HostState) : Type 0 where
  pub calls : new.calls ≡ pushed made old.calls
  pub holds : new.holds ≡ old.holds
  pub true : IfKnown old.holds (λ files. AreTrueOf files old.calls made)
  pub steady : IfKnown old.steady (λ rooms. AreSteadyCalls old.holds rooms old.calls made × (new.steady ≡ Some (rooms_over made rooms)))

-- the same call, failed
abbrev pub failure_of : Call → Call
failure_of (opened name file) = not_opened name
failure_of (read file room bytes) = not_read file room
failure_of (created name file) = not_created name
failure_of (wrote file bytes) = not_written file bytes
failure_of (finished file) = not_finished file
failure_of call = call

-- Calls that do this were made up to one that failed, and none came after it.
pub record IsCut (Does : List Call → Type 0) (calls : List Call) : Type 0 where
  pub done : List Call
  pub call : Call
  pub rest : List Call
  pub cut : calls ≡ done ++ failure_of call ∷ []
  pub whole : Does (done ++ call ∷ rest)

-- Calls that do this were made up to some moment.
pub record IsBegun (Does : List Call → Type 0) (calls : List Call) : Type 0 where
  pub rest : List Call
  pub whole : Does (calls ++ rest)

-- Calls do this, or were cut where one failed, by the result.
abbrev pub AreDoneBy : {T E : Type 0} → Result T E → (Does : List Call → Type 0) → List Call → Type 0
AreDoneBy (Ok x) Does calls = Does calls
AreDoneBy (Err e) Does calls = IsCut Does calls

-- Since the old state calls were made that do this, or were cut where one failed, by the result.
pub record Follows {T E : Type 0} (Does : List Call → Type 0) (old new : HostState) (result : Result T E) : Type 0 where
  pub calls : List Call
  pub since : Since calls old new
  pub does : AreDoneBy result Does calls

-- A write of some bytes to the output of this number.
abbrev pub IsWrite : (file : ℕ) → Call → Type 0
IsWrite file (wrote f bytes) = (f ≡ file) × (bytes ≢ [])
IsWrite file call = ⊥

-- the bytes of writes
abbrev pub bytes_written : List Call → List ℕ
bytes_written [] = []
bytes_written (wrote file bytes ∷ calls) = bytes ++ bytes_written calls
bytes_written (call ∷ calls) = bytes_written calls

-- Writes to the output of this number, none of them of no bytes, that join to these bytes.
pub record AreWrites (file : ℕ) (bytes : List ℕ) (calls : List Call) : Type 0 where
  pub each : AllByRecursion (IsWrite file) calls
  pub joined : bytes_written calls ≡ bytes

-- Writes that were cut added a prefix of these bytes to the output of this number, and the last one failed.
pub record AddsPart (file : ℕ) (bytes : List ℕ) (before now : List Call) : Type 0 where
  pub part : List ℕ
  pub prefix : IsPrefix part bytes
  pub given : given_of now ≡ given_with (given_of before) file part
  -- It is counted once, that of the complaint among its own, and every other one among those of outputs.
  pub note : file ≡ 1 → (note_faults now ≡ next_count (note_faults before)) × (out_faults now ≡ out_faults before)
  pub output : file ≢ 1 → (out_faults now ≡ next_count (out_faults before)) × (note_faults now ≡ note_faults before)

-- Each count of faults is what it was.
pub record KeepsCounts (old new : List Call) : Type 0 where
  pub inputs : in_faults new ≡ in_faults old
  pub notes : note_faults new ≡ note_faults old
  pub outputs : out_faults new ≡ out_faults old

-- One failed call for inputs was counted, and no other.
pub record CountsInput (old new : List Call) : Type 0 where
  pub inputs : in_faults new ≡ next_count (in_faults old)
  pub notes : note_faults new ≡ note_faults old
  pub outputs : out_faults new ≡ out_faults old
