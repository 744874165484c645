-- Arithmetic: clamping, wrapping, shifting and signed readings, on whole numbers of any size.
-- SignedWords: signed 16-bit numbers in bytes, and the entries of a list of numbers.
-- Limits: how much sound there can be, and how much of an input is read.
pub mod Arithmetic
pub mod Limits
pub mod SignedWords
