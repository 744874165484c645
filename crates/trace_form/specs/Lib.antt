-- Line: the text of a record in a trace.
-- Capacities: how much the lists and the ring can hold.
pub mod Line
pub mod Capacities
