-- Whole: before the first piece the header and the frames to come are the whole file.
pub mod Whole
-- Cutting: what is still to come of cuts, once one was begun or a part of one was played.
pub mod Cutting
-- Playing: the frames of a session, part by part.
pub mod Playing
-- Going: what is still to come of a session, once it went on.
pub mod Going
