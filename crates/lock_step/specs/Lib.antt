-- What a reader of the promises needs, from the machine up to what is drained:
-- the machine beneath the processor
pub mod Machine
-- that machine in lock step: what each call of a bus answers and leaves
pub mod LockStep
-- what a bus emits and hands over
pub mod Emits
-- what the machine in lock step emits and counts
pub mod LockStepEmits
-- the sample numbers of records
pub mod SampleNumbers
-- that the machine in lock step keeps the laws of a bus, and of one that emits; no promise speaks of these words
pub mod LockStepLaws
-- And what a call leaves that makes whole iterations at once, which no promise speaks of:
pub mod WaitOfIterations
-- and what one leaves that took some steps
pub mod StepsOfRun
