-- the counts of cycles, as the cycle map prints them
pub mod Cycles
-- the mnemonic of each kind of instruction
pub mod Mnemonics
-- the instruction of each opcode, column by column of the opcode map, and its length
pub mod Opcodes
-- how the rows differ, and the numbers that they have
pub mod Laws
-- where a branch leads
pub mod Branches
