-- what `dis` answers
pub mod Dis
