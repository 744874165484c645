-- How records of voices and the events that waited for their samples come into the order of the machine in lock step.
use Rattle.std.specs.Prelude.{ℕ, List, [], ◌∷◌, ◌++◌, nat_le, if◌then◌else◌}
use Rattle.trace_form.specs.declared.record.Record.{Record}
use Rattle.lock_step.specs.SampleNumbers.{sample_number}

-- the events at the front with sample numbers up to k
unfoldable pub events_up_to : (k : ℕ) → List Record → List Record
events_up_to k [] = []
events_up_to k (event ∷ events) = if nat_le (sample_number event) k then event ∷ events_up_to k events else []

-- and those after them
unfoldable pub events_after : (k : ℕ) → List Record → List Record
events_after k [] = []
events_after k (event ∷ events) = if nat_le (sample_number event) k then events_after k events else event ∷ events

-- records of voices, with each event before the voices of its sample number
unfoldable pub merge : (voices events : List Record) → List Record
merge [] events = events
merge (voice ∷ voices) events = events_up_to (sample_number voice) events ++ voice ∷ merge voices (events_after (sample_number voice) events)
