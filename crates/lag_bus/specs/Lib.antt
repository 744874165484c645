-- What a reader of the promises needs:
-- flush statistics: what is pending, what settles it, and the counts
pub mod Book
-- the machine in lock step with the book beside it
pub mod Lagging
-- what is emitted before the first pending sample
pub mod Ready
-- what the bus emits and hands over that lags
pub mod LagEmits
-- what is saved of the bus, and the bus once that is loaded
pub mod Saved
-- lists of calls of a bus
pub mod Calls
-- That it keeps its laws; no promise speaks of these words:
-- the machine with its flush statistics beside it keeps those of a bus, and of one that emits
pub mod LagLaws
-- And words of the proof that a chip whose samples are deferred comes to the same:
-- such a chip as it is once these samples are made
pub mod Deferred
-- what it holds until then
pub mod Held
-- records of voices and events in their order
pub mod Merge
-- what holds of each record
pub mod Each
-- what always holds of a bus over such a chip
pub mod IsLagging
-- Iterations that only wait:
-- the bus after cycles in which it is only read
pub mod IdleCycles
-- The clock with the ports and timers, of which no promise speaks
pub mod Clocked
-- Words of a bus with a cached clock, on which the processor runs, of which no promise speaks
pub mod CachedClock
