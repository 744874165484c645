-- What the encoder's contract says.
-- Least: the first place at which a number is least.
-- Greedy: the digits of a block under one header, chosen one after another, and their error.
-- Encoding: the blocks of a list of samples, each under its best header.
-- Triples: the headers that a block may have, and the order in which they are preferred.
-- Report: what a block's report says, read off the decoded stream.
-- EncoderParts: words of the contracts of its parts.
pub mod Least
pub mod Greedy
pub mod Encoding
pub mod Triples
pub mod Report
pub mod EncoderParts
