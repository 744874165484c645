-- Batches: samples whose voices read the same are those by rows, and samples after samples.
pub mod Batches
