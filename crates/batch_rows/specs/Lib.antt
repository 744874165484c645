-- Lane: one voice over a batch, and all voices, each over the row of the one before.
-- Rows: a batch by rows: voice by voice, and then the echo over the sums.
-- Apart: that the voices of a batch read nothing that its echo writes.
-- AddsEcho: what is there once the echo has played over a batch.
-- Once: what a batch does once.
-- BoundingPages: what voices can read, by conservative bounds.
-- CellLine: cells of the echo that stand one after another.
-- KeyRows: the rows of keys and noise that the voices of a batch read.
-- KeysAndNoise: the keys and the noise of a batch, each by itself.
-- Reads: what the voices of a batch read.
-- PlayedLane: what a voice leaves of a batch.
-- SumRows: rows of sums with the shares of a voice.
-- Sent: voices that are sent to the echo at their own volumes.
-- PlayedBatch: what the voices leave of a batch.
-- AddsFrames: what is there once samples are made whose records aren't wanted.
-- Laws: the laws of batches by rows.
pub mod Lane
pub mod Rows
pub mod Apart
pub mod AddsEcho
pub mod Once
pub mod BoundingPages
pub mod CellLine
pub mod KeyRows
pub mod KeysAndNoise
pub mod Reads
pub mod PlayedLane
pub mod SumRows
pub mod Sent
pub mod PlayedBatch
pub mod AddsFrames
pub mod Laws
