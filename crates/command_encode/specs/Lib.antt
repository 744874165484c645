-- what `encode` answers
pub mod Encode
