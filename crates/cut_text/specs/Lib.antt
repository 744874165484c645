-- what a refusal shows, a list that grows line by line, and what its numbers are below
pub mod Reading
-- a list of cuts
pub mod Cuts
-- a script that grows line by line
pub mod Scripts
-- how many frames a session plays
pub mod Playing
