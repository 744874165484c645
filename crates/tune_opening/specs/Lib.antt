-- what the machine of a tune emits
pub mod Tune
