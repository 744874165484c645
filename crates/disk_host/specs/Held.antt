-- What a host of real files is at a moment, which of its disk's files are its input and its outputs, what it asked of its disk, and which bytes its files are known to
-- hold. A file that doesn't know its bytes has None.
use Rattle.std.specs.Prelude.{◌≡◌, ◌≢◌, ℕ, List, ◌∷◌, Option, None, Result, IsErr}
use Rattle.std.specs.Io.KnownBytes.{Keeps, ReadConsumes, WriteAppends}
use Rattle.snd_host.specs.Host.{HostState}
use Rattle.snd_host.specs.Calls.{Call}
use Rattle.disk_host.specs.Texts.{Texts}
use Rattle.disk_host.specs.Created.{known_or, known_of}
use Rattle.disk_host.specs.declared.host.DiskHost.{DiskHost}

-- the host at a moment: the calls that were made of it; it shows no bytes and no rooms
abbrev pub disk_state : {D F : Type 0} → DiskHost D F → HostState
disk_state host = record { calls = host.kept.log.calls; holds = None; steady = None }

-- the disk of a host
abbrev pub disk_of : {D F : Type 0} → DiskHost D F → D
disk_of host = host.disk

-- the number of the file that is the current input; 0 where there is none
abbrev pub input_number : {D F : Type 0} → (number : F → ℕ) → DiskHost D F → ℕ
input_number number host = known_or number 0 host.kept.input

-- The number of the file that is the output of a number of the host's. Report and complaint have the same number for both; where there is none, it is 0.
abbrev pub output_number : {D F : Type 0} → (number : F → ℕ) → DiskHost D F → (output : ℕ) → ℕ
output_number number host output = known_of number 0 0 1 host.kept.created.items output

-- The output of each number is the file that it was, but for that of this one.
abbrev pub KeepsOutputsBut : {D F : Type 0} → (but : ℕ) → (number : F → ℕ) → (old new : DiskHost D F) → Type 0
KeepsOutputsBut but number old new = (output : ℕ) → output ≢ but → output_number number new output ≡ output_number number old output

-- The output of each number is the file that it was.
abbrev pub KeepsOutputs : {D F : Type 0} → (number : F → ℕ) → (old new : DiskHost D F) → Type 0
KeepsOutputs number old new = (output : ℕ) → output_number number new output ≡ output_number number old output

-- The current input is the file that it was.
abbrev pub KeepsInput : {D F : Type 0} → (number : F → ℕ) → (old new : DiskHost D F) → Type 0
KeepsInput number old new = input_number number new ≡ input_number number old

-- The disk was asked for this call, and for no other.
abbrev pub AsksOnce : {D F : Type 0} → (calls : D → List Call) → Call → (old new : DiskHost D F) → Type 0
AsksOnce calls call old new = calls new.disk ≡ call ∷ calls old.disk

-- It failed without asking the disk.
pub record FailsUnasked {D F T E : Type 0} (calls : D → List Call) (old new : DiskHost D F) (result : Result T E) : Type 0 where
  pub failed : IsErr result
  pub unasked : calls new.disk ≡ calls old.disk

-- how a file shows the bytes that it holds, or those that it has left, where it knows them
abbrev pub Reports : Type 0 → Type 0
Reports F = F → Option (List ℕ)

-- what is known of the output of a number: 0 is the report, 1 the complaint
abbrev pub held_by : {D F : Type 0} → Reports F → (D → Texts) → DiskHost D F → (number : ℕ) → Option (List ℕ)
held_by files texts host number = known_of files None (texts host.disk).report (texts host.disk).complaint host.kept.created.items number

-- The bytes that were read are the next ones of the current input, and none come only at its end.
abbrev pub ReadsOn : {D F X : Type 0} → Reports F → (buf : List ℕ) → (old new : DiskHost D F) → Result ℕ X → Type 0
ReadsOn left buf old new result = ReadConsumes (known_or left None old.kept.input) (known_or left None new.kept.input) result buf

-- The bytes that were taken of a piece come after those that the output of a number held, and every other output holds what it held.
pub record WritesOn {D F X : Type 0} (files : Reports F) (texts : D → Texts) (number : ℕ) (piece : List ℕ)
    (old new : DiskHost D F) (result : Result ℕ X) : Type 0 where
  pub added : WriteAppends (held_by files texts old number) (held_by files texts new number) result piece
  pub others : (other : ℕ) → other ≢ number → held_by files texts new other ≡ held_by files texts old other

-- Every output holds the bytes that it held.
abbrev pub HoldsStay : {D F : Type 0} → Reports F → (D → Texts) → (old new : DiskHost D F) → Type 0
HoldsStay files texts old new =
    (number : ℕ) → Keeps (held_by files texts old number) (held_by files texts new number)

-- What is left of the current input stays: none of its bytes is eaten.
abbrev pub InputStays : {D F : Type 0} → Reports F → (old new : DiskHost D F) → Type 0
InputStays left old new = Keeps (known_or left None old.kept.input) (known_or left None new.kept.input)
