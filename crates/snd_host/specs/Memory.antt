-- What contracts see of a host in memory.
use Rattle.std.specs.Prelude.{◌≡◌, ◌==◌, ◌+◌, min, length, ℕ, slice_index, List, [], ◌∷◌, ◌++◌, Bool, Some, None, is_some, map, drop, nat_le, if◌then◌else◌}
use Rattle.std.specs.List.{list_any}
use Rattle.snd_host.specs.Host.{HostState, Files}
use Rattle.snd_host.specs.History.{ended_of}
use Rattle.snd_host.specs.Files.{File, content_of}
use Rattle.snd_host.specs.declared.memory.MemHost.{MemHost}

-- a number of a failing call is not yet passed
abbrev pub fails_later : List ℕ → ℕ → Bool
fails_later failing calls = list_any (λ number. nat_le calls number) failing

-- how many bytes more each output takes, by its number, and after the created ones each that can still be created
abbrev pub rooms_of : MemHost → List ℕ
rooms_of host = host.report.room ∷ host.complaint.room ∷ (map (λ slot. slot.sink.room) host.created.items ++ map (λ spare. spare.room) host.spare.items)

-- what the names hold
abbrev pub names_of : MemHost → Files
names_of host = content_of host.files.items

abbrev pub memory_state : MemHost → HostState
memory_state host = record {
  calls = host.log.calls;
  holds = Some (names_of host);
  steady = if fails_later host.failing.items host.calls then None else Some (rooms_of host);
}

-- the number of calls so far, which stays at 4,294,967,295 once it is there
abbrev pub calls_of : MemHost → ℕ
calls_of host = host.calls

-- the numbers of the calls that fail, where the first call has the number 0
abbrev pub failing_of : MemHost → List ℕ
failing_of host = host.failing.items

-- The number of the next call, which is that of the calls before it, is listed as one that fails.
abbrev pub is_listed : MemHost → Bool
is_listed host = list_any (λ number. number == calls_of host) (failing_of host)

-- the number of a call that those after it keep
abbrev pub max_number_of_call : ℕ
max_number_of_call = 4294967295

-- One call was counted, and the same numbers are listed.
pub record CountsCall (old new : MemHost) : Type 0 where
  pub calls : calls_of new ≡ min (calls_of old + 1) max_number_of_call
  pub failing : failing_of new ≡ failing_of old

-- An input has this name.
abbrev pub has_input : MemHost → List ℕ → Bool
has_input host name = is_some (names_of host name)

-- No room is left for one more output: the report, the complaint and the created ones have them all.
abbrev pub is_full : MemHost → Bool
is_full host = nat_le (length (rooms_of host)) (length (ended_of (memory_state host).calls) + 2)

-- the rooms of a new host: 0 for the report and the complaint where none is given
abbrev pub opening_rooms : List ℕ → List ℕ
opening_rooms rooms = slice_index rooms 0 ∷ slice_index rooms 1 ∷ drop 2 rooms

-- a new host, of which no call was made: steady where no call is to fail
abbrev pub opening_state : List File → List ℕ → List ℕ → HostState
opening_state files failing rooms = record {
  calls = [];
  holds = Some (content_of files);
  steady = if fails_later failing 0 then None else Some (opening_rooms rooms);
}
