-- SameMachine: the machine beside its flush statistics is the one in lock step
pub mod SameMachine
-- MergedRecords: what a merge of records of voices and events has, and how it grows
pub mod MergedRecords
-- VoicesWithin: the records of samples are of voices, with their numbers
pub mod VoicesWithin
-- ChangesOfHeld: what a chip with deferred samples comes to, after each change of what is held
pub mod ChangesOfHeld
-- WritesToCome: samples to come read and write where the reach says
pub mod WritesToCome
-- PendingSamples: some samples more that are pending
pub mod PendingSamples
-- CountsAddUp: the batches are those of the causes together
pub mod CountsAddUp
-- PageMarks: marks of pages that samples don't write
pub mod PageMarks
-- FallenDue: a bus at which some samples more are pending, and a pass from there
pub mod FallenDue
-- CapacityOfFallen: the capacity that samples take which fall due
pub mod CapacityOfFallen
-- PassesOfAWait: the machine with its flush statistics passes cycles in which it is only read
pub mod PassesOfAWait
-- IterationsOfAWait: and it makes iterations of steps that only read
pub mod IterationsOfAWait
-- TotalOfCalls: over calls that load nothing the chip counts on
pub mod TotalOfCalls
-- DeferredTicks: ticks that are deferred are those of the cycles since
pub mod DeferredTicks
-- PassesInHand: a bus that is behind, and what is done to the one that runs on it
pub mod PassesInHand
-- StepsInHand: steps on a bus in hand are those on the bus
pub mod StepsInHand
