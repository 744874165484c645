-- Added: sets with the pages of lists added, and when two lists add the same.
-- EveryPage: the pages of bytes that follow one another are those of each 256th byte and of the last one.
-- ChainInTwoParts: the pages of a chain are those of its blocks up to the first end, and of those from its loop word up to the first end there.
-- ChainEntries: the entries of a chain, one after another.
-- PageOfBytes: whether bytes that follow one another, or the blocks of a chain, have a page.
pub mod Added
pub mod EveryPage
pub mod ChainInTwoParts
pub mod ChainEntries
pub mod PageOfBytes
