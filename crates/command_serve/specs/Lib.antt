-- the script that an input holds
pub mod Scripts
-- what `serve` answers
pub mod Serve
