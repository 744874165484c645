-- what a mark gives up
pub mod Fewest
