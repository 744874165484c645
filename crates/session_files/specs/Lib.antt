-- cuts that are turned into the bytes of a sound file, piece by piece, and the report on them
pub mod CutFiles
-- the replies as text
pub mod Replies
-- what contracts see of a session on a server
pub mod SessionRun
-- the same as a sound file and a report, piece by piece
pub mod SessionFiles
