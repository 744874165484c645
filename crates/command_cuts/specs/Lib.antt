-- the list of cuts that an input holds
pub mod Lists
-- what `cuts` answers
pub mod Cuts
