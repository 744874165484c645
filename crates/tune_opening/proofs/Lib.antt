-- Served: the frames, as those of a run, the pages and the chip of a server that opened at a tune.
pub mod Served
