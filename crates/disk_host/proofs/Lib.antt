pub mod Outputs
pub mod Places
