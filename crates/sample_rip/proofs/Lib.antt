-- FirstPlaces: the first of n numbers that passes a test. FoundByBits: what is found of a sample, by the bits of its blocks.
-- BlocksInOrder: the samples of blocks that are decoded one after another.
-- Sizes: how many samples are encoded again.
pub mod FirstPlaces
pub mod FoundByBits
pub mod BlocksInOrder
pub mod Sizes
