-- Bounds: how large a shifted number and a scaled product get. Entries: the entries of a list, one by one.
-- Quotients: a number by its quotient over a power of 2 and its rest, and products of sums.
-- Rows: the limits as products of familiar numbers.
pub mod Bounds
pub mod Entries
pub mod Quotients
mod Rows
