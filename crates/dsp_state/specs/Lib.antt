-- Registers: the registers by their names, and what the voices and the echo read of them.
-- Settings: what samples read of the registers.
-- Volumes: the volumes of the voices.
-- Mix: the sums over the voices.
-- Results: what a sample leaves in the registers.
-- Sample: one sample of the S-DSP, part by part.
-- Outside: the state at the opening, and the registers seen from outside.
-- Valid: the states that a chip can be in.
-- Reach: the pages that the samples to come can read and write.
pub mod Registers
pub mod Settings
pub mod Volumes
pub mod Mix
pub mod Results
pub mod Sample
pub mod Outside
pub mod Valid
pub mod Reach
