-- The outside of a program as contracts see it: the calls that were made of it, what its inputs hold, and how much its outputs take.
use Rattle.std.specs.Prelude.{◌≡◌, ℕ, zero, suc, ◌+◌, ◌-◌, ◌^◌, ◌≤◌, min, Bool, false, List, [], ◌∷◌, ◌++◌, Option, Some, slice_get, slice_index, slice_set}
use Rattle.std.specs.Option.{option_map_or}
use Rattle.snd_host.specs.Calls.{Call}

-- What names hold: no bytes, some, or the name is not there.
abbrev pub Files : Type 0
Files = List ℕ → Option (List ℕ)

-- an output that was created: its name and the bytes that it was given
pub record Output : Type 0 where
  pub name : List ℕ
  pub bytes : List ℕ

-- what the report, the complaint and the created outputs were given
pub record Given : Type 0 where
  pub report : List ℕ
  pub complaint : List ℕ
  pub created : List Output

-- A host at one moment. An implementation shows `holds` and `steady`, or it doesn't. All else that is said of a host is what its calls come to.
pub record HostState : Type 0 where
  -- the calls that were made of it, the newest first, each with what came of it
  pub calls : List Call
  -- what the names hold
  pub holds : Option Files
  -- Of a steady host, how many bytes more each output takes, by its number. Those after the created ones are not yet taken.
  pub steady : Option (List ℕ)

-- where it is known, it has this property
abbrev pub IfKnown : {T : Type 0} → Option T → (T → Type 0) → Type 0
IfKnown {T} known P = (x : T) → known ≡ Some x → P x

-- the greatest value of a count, which has 64 bits
abbrev pub max_count : ℕ
max_count = 2 ^ 64 - 1

-- One output more can be created where fewer than so many were: its number has 32 bits.
abbrev pub max_outputs : ℕ
max_outputs = 4294967000

-- the bytes of the longest name of an output that a steady host takes
abbrev pub longest_output_name : ℕ
longest_output_name = 200

-- the greatest limit up to which an input is read whole
abbrev pub max_limit : ℕ
max_limit = 16777216

-- a count with one more, which stands still at its greatest value
abbrev pub next_count : ℕ → ℕ
next_count before = min (before + 1) max_count

-- A count rose: it is greater than before, or it stands at its greatest value.
abbrev pub Rose : ℕ → ℕ → Type 0
Rose before now = next_count before ≤ now

-- the created outputs, with these bytes after those of the output at this place
abbrev pub outputs_with : List Output → ℕ → List ℕ → List Output
outputs_with [] place bytes = []
outputs_with (output ∷ outputs) zero bytes = record output { bytes = output.bytes ++ bytes } ∷ outputs
outputs_with (output ∷ outputs) (suc place) bytes = output ∷ outputs_with outputs place bytes

-- what was given, with these bytes after those of the output of this number: 0 is the report, 1 the complaint
abbrev pub given_with : Given → ℕ → List ℕ → Given
given_with given zero bytes = record given { report = given.report ++ bytes }
given_with given (suc zero) bytes = record given { complaint = given.complaint ++ bytes }
given_with given (suc (suc place)) bytes = record given { created = outputs_with given.created place bytes }

-- the bytes that the output of this number was given, and none where it was not created
abbrev pub bytes_given : Given → ℕ → List ℕ
bytes_given given zero = given.report
bytes_given given (suc zero) = given.complaint
bytes_given given (suc (suc place)) = option_map_or (λ output. output.bytes) (slice_get given.created place) []

-- The output of this number can be written: it is the report, the complaint or a created output that was not ended.
abbrev pub IsOpen : List Bool → ℕ → Type 0
IsOpen ended zero = Unit {0}
IsOpen ended (suc zero) = Unit {0}
IsOpen ended (suc (suc place)) = slice_get ended place ≡ Some false

-- the rooms after so many bytes were written to the output of this number
abbrev pub rooms_less : List ℕ → ℕ → ℕ → List ℕ
rooms_less rooms file count = slice_set rooms file (slice_index rooms file - count)

-- A list begins with this one.
pub record IsPrefix (part whole : List ℕ) : Type 0 where
  pub rest : List ℕ
  pub split : part ++ rest ≡ whole
