-- Iterations: steps that only read, and iterations of them, over any bus.
pub mod Iterations
-- Halting: only a processor that halts takes its time from the next sample.
pub mod Halting
-- Trials: what steps show over a read-only bus.
pub mod Trials
