-- EightVoices: a sample keeps the number of voices.
-- Valid: what keeps a state valid.
-- Inputs: samples leave every register but those of their results.
-- ReadOnce: the settings that are read of registers, and that samples do not change them.
-- Shares: a sum over the voices, once none of them is left.
-- ReadPages: what voices read, page by page.
pub mod EightVoices
pub mod Valid
pub mod Inputs
pub mod ReadOnce
pub mod Shares
pub mod ReadPages
