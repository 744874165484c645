-- Targets: what a step aims at, mode by mode, and the level that it takes.
-- Rises: the levels of rises from 0, sample by sample.
pub mod Targets
pub mod Rises
