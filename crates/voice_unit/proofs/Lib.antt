-- Twelve: lists of twelve samples, entry by entry.
-- Groups: a voice stands at a group of its block, and a step takes it from group to group.
-- Silence: at level 0 a voice puts out 0.
-- OneMoreStep: one step more of a voice over a batch, and what it gives.
pub mod Twelve
pub mod Groups
pub mod Silence
pub mod OneMoreStep
