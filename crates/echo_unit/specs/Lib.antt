-- Flg: the bits of the register FLG that the echo reads.
-- Parts: samples times a number that is given as a whole number and 65,536ths.
-- Fir: the filter over the last eight echo samples of a side.
-- Window: the part of memory in which the echo buffer lies.
-- Echo: what one step of the echo does to its state and to memory, and the frame that it gives.
-- EchoOverBatch: the echo over the samples of a batch.
-- Page: cells in the bytes of a page.
-- Cells: the cells that the echo goes through one after another.
pub mod Flg
pub mod Parts
pub mod Fir
pub mod Window
pub mod Echo
pub mod EchoOverBatch
pub mod Page
pub mod Cells
