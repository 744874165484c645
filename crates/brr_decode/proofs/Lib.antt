-- Samples: lists of kept samples, digit by digit. Blocks: the same by groups and blocks. GroupsOfBlock: groups of a block that stand in a row.
pub mod Samples
pub mod Blocks
pub mod GroupsOfBlock
