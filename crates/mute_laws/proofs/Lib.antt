-- Registers: registers that differ in volumes of muted voices alone.
-- Alike: a sample of chips that differ in them alone.
-- Writes: reads and writes of such chips.
-- GoOn: a sample and a write with other voices muted.
-- Silence: a chip with all voices muted.
pub mod Registers
pub mod Alike
pub mod Writes
pub mod GoOn
pub mod Silence
