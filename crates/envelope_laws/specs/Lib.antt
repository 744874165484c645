-- OneStep: what one step does to the level, mode by mode.
-- ManySteps: how an envelope moves over several samples.
pub mod OneStep
pub mod ManySteps
