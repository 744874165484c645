-- FreeEnvelopeStep: a step of a voice with a free-running envelope. Stepped: an envelope after the steps of some samples.
-- Played: one sample more of a voice over a batch.
-- Bending: the bend of a pitch by the double of the pitch.
pub mod FreeEnvelopeStep
pub mod Stepped
pub mod Played
pub mod Bending
-- ByLevel: a sample at a level. RenderedSpan: lanes that let a span be rendered.
pub mod ByLevel
pub mod RenderedSpan
-- RowOfVoice: the row of kept samples.
pub mod RowOfVoice
-- Counting: how many groups are read before each sample. EndBits: the bits of a voice that comes to an end, group by group.
pub mod Counting
pub mod EndBits
-- OverRow: a span of samples of a rendered span.
pub mod OverRow
-- PartsOfRow: parts of a row of numbers, one entry more at a time.
pub mod PartsOfRow
-- InBlock: the groups of one block, as a voice comes to them.
pub mod InBlock
