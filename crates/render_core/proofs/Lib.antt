-- FadedFrames: how large a faded side gets, and the entries of faded frames.
pub mod FadedFrames
-- RunBySteps: a run is its next step and the run from there.
pub mod RunBySteps
-- ItemsBeforeRun: what was emitted before a run stands before what it emits.
pub mod ItemsBeforeRun
-- FrameEachSample: a run emits a frame for each sample.
pub mod FrameEachSample
-- FramesFromOpening: from the opening that is as many as samples are to be made.
pub mod FramesFromOpening
-- EmptyLists: two lists that make an empty one are empty.
pub mod EmptyLists
-- RunsOfSeenBus: a bus with something beside it makes the same runs.
pub mod RunsOfSeenBus
-- LaggingRun: the machine with its flush statistics beside it makes the same runs.
pub mod LaggingRun
-- NextPiece: the next piece of a render, from a run of the machine with the flush statistics.
pub mod NextPiece
-- RunAfterWait: a run goes on after iterations that were made at once.
pub mod RunAfterWait
-- CountedSteps: between two states of a bus its chip counts on.
pub mod CountedSteps
-- WholeRuns: what holds of every whole machine that is saved, loaded and run.
pub mod WholeRuns
-- AtLength: a render at its length.
pub mod AtLength
