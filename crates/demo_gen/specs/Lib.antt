-- Draws: the bytes that are drawn.
-- Samples: the blocks of the samples, and the directory of them.
-- Writes: what the driver writes while it runs: registers of the S-DSP, their values, and bytes of the blocks.
-- Driver: the program, and the registers of the S-DSP that it begins with.
-- Places: where the parts of the file stand.
-- Demo: the file, a table of its parts.
pub mod Draws
pub mod Samples
pub mod Writes
pub mod Driver
pub mod Places
pub mod Demo
