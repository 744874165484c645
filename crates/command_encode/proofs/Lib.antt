-- BlockLines: the lines of the blocks, one after another.
pub mod BlockLines
