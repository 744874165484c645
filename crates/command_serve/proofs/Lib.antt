-- Tunes: a session over a tune.
pub mod Tunes
