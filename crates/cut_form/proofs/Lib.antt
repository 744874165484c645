mod Rows
-- Slices: slices of a run, in parts.
pub mod Slices
