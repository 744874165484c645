-- how texts are printed
pub mod Texts
-- bytes with a fixed capacity
pub mod Capacity
