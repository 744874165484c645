-- what `info` answers
pub mod Info
