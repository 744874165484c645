-- What a search through several candidates finds.
-- Candidates: a candidate through the samples, one digit further on, and the candidates that stay.
-- Beam: the candidates through a block, and through all blocks.
-- Links: the blocks of candidates, each linked to the candidate that it goes on from.
-- Options: how a sound is encoded.
-- Found: the encoding that is found, and what it costs.
-- Headers: the headers of its blocks.
pub mod Candidates
pub mod Beam
pub mod Links
pub mod Options
pub mod Found
pub mod Headers
