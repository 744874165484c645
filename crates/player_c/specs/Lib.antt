-- what a pointer may hold where a player is closed
pub mod Closing
-- the handle, and what calls make of the player that it has
pub mod Handle
-- what the bytes of a file say
pub mod Info
-- what a handle ends as, once its player was lent
pub mod Lending
-- what C opens a player with
pub mod Options
-- what a handle owns
pub mod Owned
-- what a pointer to a handle owns
pub mod Pointers
-- the numbers that calls answer
pub mod Status
-- tags by their numbers
pub mod Tags
