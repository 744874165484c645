-- Readings: what is read of an input, and what commands prepare after it.
pub mod Readings
