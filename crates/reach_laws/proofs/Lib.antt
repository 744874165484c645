-- Registers: samples leave every register but those of their results.
-- Keys: a key-on that is latched was pending.
-- EchoPlace: where the echo stands after samples.
-- EchoPages: a step of the echo reads and writes one cell, on a page of its window.
-- ReachOfChip: what the reach says of the pages of the voices and of the window.
-- OneSample: what holds after some samples, and that one more keeps it.
-- Within: the laws of up to 64 samples.
-- PageSets: pages in lists and in sets.
-- Agree: what a voice's step reads.
-- OnChains: a voice stays on its chains.
-- ChainPages: what a voice on its chains reads lies on their pages.
-- Same: two memories that have the same bytes where voices on their chains can look.
-- Voices: the same of all voices.
-- ByBytes: samples whose cells have no byte that a voice can read in them.
-- Starts: a byte put off the read pages leaves the reach as it is.
pub mod Registers
pub mod Keys
pub mod EchoPlace
pub mod EchoPages
pub mod ReachOfChip
pub mod OneSample
pub mod Within
pub mod PageSets
pub mod Agree
pub mod OnChains
pub mod Same
pub mod ChainPages
pub mod Voices
pub mod ByBytes
pub mod Starts
