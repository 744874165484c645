-- Idle: cycles that bring no tick.
pub mod Idle
-- Ticks: ticks compose, and how long a counter stays what it is.
pub mod Ticks
-- Stays: what reads answer over cycles in which counters that are 0 stay 0.
pub mod Stays
-- Fewer: counters that stay 0 over some cycles do so over fewer.
pub mod Fewer
