-- From a cut up to a session:
-- the lines of a text, and the words of a line
pub mod TextLines
-- slices of a run, and cuts
pub mod Slices
-- the frames of a run, as they grow sample by sample
pub mod GrowingFrames
-- what a list of cuts says
pub mod CutList
-- checkpoints, and the slots that they share
pub mod Checkpoints
-- where a server stands, its checkpoints, and how much it made
pub mod CutBook
-- a mark, which gives up older checkpoints where it has to
pub mod Marks
-- what a script says
pub mod Script
-- a session: the replies to a script
pub mod Session
