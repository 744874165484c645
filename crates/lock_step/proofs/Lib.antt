-- NoWait: a bus that made no iteration at once
pub mod NoWait
-- ChipCounts: a chip counts on over nothing, and over one span after another
pub mod ChipCounts
-- StepsTaken: steps one after another, over a bus that emits
pub mod StepsTaken
