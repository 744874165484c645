-- Leasts: the first place at which a number is least.
-- Choices: the nearest of the digits so far.
-- Triples: the first of the headers that cost least is allowed, and has the least triple.
-- Costs: what a header costs, target by target.
-- Cheapests: the cheapest of the headers that were tried.
-- Pairs: two targets more of a block.
-- Coders: what an encoder holds after targets.
-- Digits: the bytes of a block, read as its digits again.
-- Streams: the blocks of an encoding, one by one and decoded, and their reports.
pub mod Leasts
pub mod Choices
pub mod Triples
pub mod Costs
pub mod Cheapests
pub mod Pairs
pub mod Coders
pub mod Digits
pub mod Streams
