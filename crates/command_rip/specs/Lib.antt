-- what `rip` answers
pub mod Rip
-- a sample that is written block by block
pub mod Pieces
