-- What the parts of a host in memory come to.
use Rattle.std.specs.Prelude.{ℕ, List, [], Bool, Option, Some, None, drop, string_bytes, if◌then◌else◌}
use Rattle.std.specs.Option.{option_map}
use Rattle.snd_host.specs.Host.{Output}
use Rattle.snd_host.specs.Files.{File, bytes_at}
use Rattle.snd_host.specs.declared.reading.Reading.{Reading}
use Rattle.snd_host.specs.declared.outputs.Slot.{Slot}

-- what is left of a reading
abbrev pub left_by : List File → Option Reading → List ℕ
left_by files None = []
left_by files (Some reading) = drop reading.at (bytes_at files reading.index)

-- the number of the input that can be read: the last one that was opened, where no call of `open_in` has failed since
abbrev pub number_of : (is_open : Bool) → (last : Option Reading) → (newest : ℕ) → Option ℕ
number_of is_open last newest = option_map (λ _. newest) (if is_open then last else None)

-- a created output
abbrev pub output_of : Slot → Output
output_of slot = record { name = string_bytes slot.name; bytes = slot.sink.bytes.items }
