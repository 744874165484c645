-- Lanes: the voices of a sample, one after another, are a sample of their lanes.
-- SameInputs: registers that differ in results alone give voices, sums and echo the same.
-- OneMore: one sample, from where a batch by rows has come.
-- ByRows: a batch whose voices read nothing that its echo writes is one by rows.
-- InReach: where the voices of a batch read nothing that its echo writes.
-- ResultsOfBatch: the results of a batch are those of its last sample, but for ENDX, and its key-ons are latched at its first poll.
-- KeysApart: the keys and the noise of a batch, apart from each other; the keys change at its first two polls alone.
-- PlayedLane: a voice over the rows of a batch makes the steps of its lane.
-- Unmodulated: a voice that isn't modulated plays the same over any row of outputs of the voice before it.
-- VoiceMore: one voice more of a batch, over any row of its outputs.
-- Remains: the voices of a batch, one more of them played.
-- AllSent: where all voices are sent to the echo at their own volumes, the main sums are those of what they send.
-- Shares: shares at volume 0, at volumes that a factor of 16 bits has, and at those from 64 on.
-- Keyed: the voices that a sample keys are those whose key-ons its poll latched.
-- EchoOver: the echo's run over rows that agree, and one step more of ENDX.
-- MakeBatch: what the voices, the echo and the results leave of a batch by rows.
-- BoundingPages: the blocks of a chain lie in two runs of bytes.
-- CellLine: cells in line, and the bytes that they miss.
pub mod Lanes
pub mod SameInputs
pub mod OneMore
pub mod ByRows
pub mod InReach
pub mod ResultsOfBatch
pub mod BoundingPages
pub mod CellLine
pub mod KeysApart
pub mod PlayedLane
pub mod Unmodulated
pub mod VoiceMore
pub mod Remains
pub mod AllSent
pub mod Shares
pub mod Keyed
pub mod EchoOver
pub mod MakeBatch
-- NoRecords: no record of a voice is in the mask 0.
pub mod NoRecords
