-- what `check` answers
pub mod Check
