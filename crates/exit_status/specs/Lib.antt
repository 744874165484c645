-- the statuses: their numbers, and the ends that they stand for
pub mod Statuses
-- the lines of complaint
pub mod Lines
