-- Waves: how the bytes of a piece, and those still to come, make up those that were to come.
pub mod Waves
-- RowBytes: rows of frames, one after another, as bytes.
pub mod RowBytes
