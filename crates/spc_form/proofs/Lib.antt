-- Texts: the digits at the front of a text. Padding: what is kept of a file. Heads: what its head shows. Signatures: where bytes differ from
-- those that are wanted. Refusals: an answer that is known, and the refusals that it leaves.
pub mod Texts
pub mod Padding
pub mod Signatures
pub mod Refusals
pub mod Heads
