-- Walks: the chunks of a file, one by one.
pub mod Walks
