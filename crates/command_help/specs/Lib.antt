-- what `help` and `version` answer
pub mod Help
