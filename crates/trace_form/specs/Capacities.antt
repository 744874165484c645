-- How much the lists and the ring can hold.
use Rattle.std.specs.Prelude.{ℕ}
use Rattle.trace_form.specs.declared.lists.TheConstants.{FRAME_CAPACITY, RECORD_CAPACITY}
use Rattle.trace_form.specs.declared.ring.TheConstants.{EVENT_CAPACITY}

-- frames, between two drains of a bus: 128
abbrev pub frame_capacity : ℕ
frame_capacity = FRAME_CAPACITY

-- records, between two drains: 256 events, one for each of 64 calls, and those of eight voices in 128 samples
abbrev pub record_capacity : ℕ
record_capacity = RECORD_CAPACITY

-- events that wait in the ring: 256
abbrev pub event_capacity : ℕ
event_capacity = EVENT_CAPACITY
