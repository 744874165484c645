-- what `brr` answers
pub mod Brr
