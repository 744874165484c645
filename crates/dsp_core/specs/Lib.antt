-- Chip: what contracts see of a chip.
-- Next: what its next samples leave and give.
-- Saved: what is saved of a chip, and put back.
-- DspChip: the S-DSP as a chip.
-- DspLaws: it keeps the laws of a chip.
-- VoicesOfSample: the voices of a sample, by the settings that the chip has read.
-- MadeSample: what is there once one sample is made.
-- Outputs: what samples add to.
-- Inside: what holds of the fields of each chip.
-- InsideSaved: and of all that is saved of one.
pub mod Chip
pub mod Next
pub mod Saved
pub mod DspChip
pub mod DspLaws
pub mod VoicesOfSample
pub mod MadeSample
pub mod Outputs
pub mod Inside
pub mod InsideSaved
