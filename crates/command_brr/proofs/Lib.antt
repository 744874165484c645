-- Lengths: bytes that are decoded are not too many.
pub mod Lengths
