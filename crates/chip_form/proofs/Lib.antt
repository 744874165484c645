-- OneMoreSample: no samples, and one sample more.
pub mod OneMoreSample
-- AfterSamples: laws on n samples from facts on one.
pub mod AfterSamples
-- RecordCounts: how many records a sample gives.
pub mod RecordCounts
-- LawfulSamples: what samples of a lawful chip keep and give, one after another.
pub mod LawfulSamples
