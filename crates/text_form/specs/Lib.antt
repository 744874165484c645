-- Digits: bytes and words as hexadecimal digits.
-- Decimals: the number that decimal digits write.
-- Parts: what is left of a text, split at a character.
pub mod Digits
pub mod Decimals
pub mod Parts
