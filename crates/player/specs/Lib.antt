-- that what was heard is near
pub mod Heard
-- what callers get in arrays of their own
pub mod Output
-- the marks that a player takes by itself
pub mod OwnMarks
-- what contracts see of a player
pub mod Player
