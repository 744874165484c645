-- What a block of BRR means.
-- Header: the fields of a block's first byte, and the block that follows.
-- Kept: the sample that is kept of a digit, and the list of kept samples over all blocks.
-- CacheHit: when a cached block is the one that is asked for.
-- CachedBlocks: a block by what it is decoded from.
-- Stream: what a stream of bytes is decoded to, or why it isn't.
pub mod Header
pub mod Kept
pub mod CacheHit
pub mod CachedBlocks
pub mod Stream
