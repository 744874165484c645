-- what the reading of an input gives
pub mod Reading
-- an SPC file, and a table of weights
pub mod Inputs
