-- what a player is opened with
pub mod Inputs
-- what a player is opened with beside its tune
pub mod Options
-- what contracts see of a player on the S-DSP
pub mod Player
-- why a player is not opened
pub mod Refusals
-- what shows of a voice
pub mod Voices
