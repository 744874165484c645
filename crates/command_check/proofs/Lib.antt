-- CheckSums: the sums of a check fit into 64 bits.
pub mod CheckSums
