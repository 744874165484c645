pub mod Apart
pub mod Others
-- the flags of a sum that were set one after another
pub mod SumFlags
-- overflow and carry by the tests of bytes and words
pub mod Overflow
-- a quotient that is a byte
pub mod Division
-- decimal sums, by a test of all of them
pub mod DecimalSums
-- the flags of a byte by bits alone
pub mod BitFlags
