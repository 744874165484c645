-- what `asm` answers
pub mod Asm
