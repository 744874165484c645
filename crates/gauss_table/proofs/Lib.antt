-- ByFactors: what a sample gives under a weight, by its factor.
-- Pairs: three numbers of 16 bits summed as the halves of two of 32.
-- Reading: numbers that were read one by one are the numbers that the bytes read as.
pub mod Pairs
pub mod Reading
pub mod ByFactors
