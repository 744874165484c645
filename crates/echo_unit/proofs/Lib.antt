-- Products: a product over a power of 2, by the parts of a number, and sums of wrapped numbers.
-- Taps: the taps of the filter, one by one. History: the last eight pairs in an array that turns.
pub mod Products
pub mod Taps
pub mod History
-- Cells: the echo stands at a cell of its buffer, and a step takes it from cell to cell.
pub mod Cells
-- ApartFromCell: a step of the echo writes one cell. Walk: up to 64 cells of a buffer are all apart.
pub mod ApartFromCell
pub mod Walk
-- Neighbours: cells that stand one after another in one page.
-- Entries: rows that a loop fills. RunByRows: a batch whose cells are all read before they are written.
pub mod Entries
pub mod Neighbours
pub mod RunByRows
