-- the commands, as words say them
pub mod Command
-- the options of `encode`, as words say them
pub mod EncodeWords
-- the options of `render`, numbers, addresses and pages, as words say them
pub mod Options
-- the options of `serve` and of `cuts`, as words say them
pub mod SessionWords
-- what the words that were read mean
pub mod Meaning
