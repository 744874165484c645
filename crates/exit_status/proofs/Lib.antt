-- Ends: how a run ends, by its status and by the answer.
pub mod Ends
