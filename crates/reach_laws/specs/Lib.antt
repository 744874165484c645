-- Chain: where a voice can have come after some samples, and that it does not come elsewhere.
pub mod Chain
-- CellsMiss: that the cells which the echo writes have no byte that a voice can read meanwhile.
pub mod CellsMiss
