-- Limits: the limit of the clock.
-- Timer: what a tick does to a timer, and how many ticks some cycles bring.
-- Zeros: how long output counters that are 0 stay 0.
-- Io: the state of the ports, the ROM and the timers, and what a read, a write and some cycles do to it.
pub mod Limits
pub mod Timer
pub mod Io
pub mod Zeros
