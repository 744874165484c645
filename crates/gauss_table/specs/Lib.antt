-- Factors: the weights of a table as factors of 16 bits.
-- Inside: what the fields of a table stand for.
-- Interpolation: the interpolation of four samples by a table of weights.
-- Quads: the four weights of each place, side by side.
-- ShortTaps: what four samples give under weights that are fractions, as eight bytes.
-- StraightTable: the table of straight lines.
-- TapBounds: how large four taps are at most.
-- Weights: which bytes are a table.
pub mod Factors
pub mod Inside
pub mod Interpolation
pub mod Quads
pub mod ShortTaps
pub mod StraightTable
pub mod TapBounds
pub mod Weights
