-- FreeEnvelope: voices whose envelopes change by the envelopes' own steps alone.
-- OneSample: one sample of a voice.
-- Plain: a sample in which nothing but its blocks, its registers and the voice before shows what a voice plays.
-- Play: a voice over a batch, as rows of numbers alone.
pub mod FreeEnvelope
pub mod OneSample
pub mod Plain
pub mod Play
-- Row: the row of kept samples that a voice reads in a span of samples. SpanPhases: how far the samples of a span stand in it.
-- SpanPlan: the plan of a span. Levels: the levels of the samples of a span. OutsOverRow: the outputs of a voice over that row.
pub mod Row
pub mod SpanPhases
pub mod SpanPlan
pub mod Levels
pub mod OutsOverRow
