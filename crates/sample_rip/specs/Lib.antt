-- Entries: which entries of the directory are ripped.
-- Blocks: the blocks of a sample in memory, one after another.
-- Rip: where a sample starts, how many blocks it has, and how it ends.
-- Walk: a walk over the samples of a rip.
-- Reencoded: what a sample comes to when it is encoded again.
-- Laws: what is found of a sample, in the words of its blocks.
pub mod Entries
pub mod Blocks
pub mod Rip
pub mod Walk
pub mod Reencoded
pub mod Laws
