-- What the calls of a host come to. The newest call is the first of the list.
use Rattle.std.specs.Prelude.{◌≡◌, ℕ, ◌+◌, ◌-◌, ◌<◌, ◌≤◌, ◌==◌, ◌⊎◌, if◌then◌else◌, Bool, true, false, List, [], ◌∷◌, ◌++◌, length, drop, Option, Some, None, IsSome, slice_index, slice_set, unwrap_or}
use Rattle.snd_host.specs.Calls.{Call, opened, not_opened, read, not_read, created, not_created, wrote, not_written, finished, not_finished}
use Rattle.snd_host.specs.Host.{Files, Given, IfKnown, IsPrefix, given_with, rooms_less, next_count, longest_output_name}

-- what the report, the complaint and the created outputs were given
abbrev pub given_of : List Call → Given
given_of [] = record { report = []; complaint = []; created = [] }
given_of (created name file ∷ calls) = record (given_of calls) { created = (given_of calls).created ++ record { name = name; bytes = [] } ∷ [] }
given_of (wrote file bytes ∷ calls) = given_with (given_of calls) file bytes
given_of (call ∷ calls) = given_of calls

-- the number of the current input: the one that was opened by the last call of `open_in`, and none where that failed
abbrev pub current_of : List Call → Option ℕ
current_of [] = None
current_of (opened name file ∷ calls) = Some file
current_of (not_opened name ∷ calls) = None
current_of (call ∷ calls) = current_of calls

-- for each created output, whether it was ended
abbrev pub ended_of : List Call → List Bool
ended_of [] = []
ended_of (created name file ∷ calls) = ended_of calls ++ false ∷ []
ended_of (finished file ∷ calls) = slice_set (ended_of calls) (file - 2) true
ended_of (call ∷ calls) = ended_of calls

-- how many calls of `open_in` and `read` failed
abbrev pub in_faults : List Call → ℕ
in_faults [] = 0
in_faults (not_opened name ∷ calls) = next_count (in_faults calls)
in_faults (not_read file room ∷ calls) = next_count (in_faults calls)
in_faults (call ∷ calls) = in_faults calls

-- how many writes to the complaint failed
abbrev pub note_faults : List Call → ℕ
note_faults [] = 0
note_faults (not_written file piece ∷ calls) = if file == 1 then next_count (note_faults calls) else note_faults calls
note_faults (call ∷ calls) = note_faults calls

-- how many calls of `create` and `finish` and other writes failed
abbrev pub out_faults : List Call → ℕ
out_faults [] = 0
out_faults (not_created name ∷ calls) = next_count (out_faults calls)
out_faults (not_written file piece ∷ calls) = if file == 1 then out_faults calls else next_count (out_faults calls)
out_faults (not_finished file ∷ calls) = next_count (out_faults calls)
out_faults (call ∷ calls) = out_faults calls

-- what is left of the input that was opened last, by what the names hold
abbrev pub left_of : Files → List Call → List ℕ
left_of files [] = []
left_of files (opened name file ∷ calls) = unwrap_or (files name) []
left_of files (read file room bytes ∷ calls) = drop (length bytes) (left_of files calls)
left_of files (call ∷ calls) = left_of files calls

-- A call after those of a history agrees with what the names hold: an input that was opened is there, and a read gives the next bytes of it, and
-- none only at its end or into an empty buffer.
abbrev pub IsTrueOf : Files → (history : List Call) → Call → Type 0
IsTrueOf files history (opened name file) = IsSome (files name)
IsTrueOf files history (read file room bytes) = IsPrefix bytes (left_of files history) × (bytes ≡ [] → 0 < room → left_of files history ≡ [])
IsTrueOf files history call = Unit {0}

-- the same of calls in their order
abbrev pub AreTrueOf : Files → (history calls : List Call) → Type 0
AreTrueOf files history [] = Unit {0}
AreTrueOf files history (call ∷ calls) = IsTrueOf files history call × AreTrueOf files (call ∷ history) calls

-- how many bytes more each output takes after a call, by its number
abbrev pub rooms_after : Call → (rooms : List ℕ) → List ℕ
rooms_after (wrote file bytes) rooms = rooms_less rooms file (length bytes)
rooms_after call rooms = rooms

-- A call is one that a steady host with these rooms makes after those of a history. It fails only to open an input that isn't there, to create an
-- output past its rooms or of a name that is too long, and to write a piece that is longer than the room.
abbrev pub IsSteadyCall : Option Files → (rooms : List ℕ) → (history : List Call) → Call → Type 0
IsSteadyCall holds rooms history (not_opened name) = IfKnown holds (λ files. files name ≡ None)
IsSteadyCall holds rooms history (not_read file room) = ⊥
IsSteadyCall holds rooms history (not_created name) = (length rooms ≤ length (ended_of history) + 2) ⊎ (longest_output_name < length name)
IsSteadyCall holds rooms history (not_written file piece) = slice_index rooms file < length piece
IsSteadyCall holds rooms history (not_finished file) = ⊥
IsSteadyCall holds rooms history call = Unit {0}

-- the same of calls in their order
abbrev pub AreSteadyCalls : Option Files → (rooms : List ℕ) → (history calls : List Call) → Type 0
AreSteadyCalls holds rooms history [] = Unit {0}
AreSteadyCalls holds rooms history (call ∷ calls) =
    IsSteadyCall holds rooms history call × AreSteadyCalls holds (rooms_after call rooms) (call ∷ history) calls

-- the same after calls in their order
abbrev pub rooms_over : (calls : List Call) → (rooms : List ℕ) → List ℕ
rooms_over [] rooms = rooms
rooms_over (call ∷ calls) rooms = rooms_over calls (rooms_after call rooms)
