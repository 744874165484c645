-- What contracts see of a vector: its elements, its capacity, and that it stays where it lies.
pub mod FixedVec
-- What a vector ends as where one of its elements was lent.
pub mod Lends
