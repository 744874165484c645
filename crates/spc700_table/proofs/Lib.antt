pub mod Below
pub mod Distinct
pub mod Table
