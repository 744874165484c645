-- Magnitudes: how large a number of so many digits can be.
-- Places: what stands before and after the first character that passes a test.
pub mod Magnitudes
pub mod Places
