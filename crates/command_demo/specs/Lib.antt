-- what `demo` answers
pub mod Demo
