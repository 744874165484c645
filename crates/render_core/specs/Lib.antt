-- What a reader of the promises needs:
-- the whole machine that a file opens
pub mod Opening
-- a run of the machine: steps until so many samples are due
pub mod MachineRun
-- the frames and records that a run emits
pub mod Items
-- how often the chip makes samples in a run, and why
pub mod RunCounts
-- what contracts see of a render: what is still to come, and the next piece of it
pub mod RenderState
-- what is saved of a whole machine, and a render once that is loaded
pub mod Saved
-- whole machines that are saved, loaded and run
pub mod Whole
-- the fade at the end
pub mod Fade
-- laws of these
pub mod Laws
-- Words of the contracts within the crate; no promise speaks of them:
pub mod BetweenSteps
