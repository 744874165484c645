-- the bytes of a file that is written
pub mod Wave
-- the chunks of a file that is read
pub mod Chunks
-- the samples of a file of one channel that is read, or what is wrong with it
pub mod Mono
-- words of the contracts of the parts of reading
pub mod Seen
