-- what the commands answer, and which inputs they read
pub mod Answers
-- on what of its inputs a command's answer depends
pub mod GoesBy
-- what calls leave
pub mod Left
-- what a render wrote, by the bytes that its inputs gave
pub mod Rendered
-- the calls that a run makes
pub mod Run
