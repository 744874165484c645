-- Still: steps that leave an envelope as it is.
pub mod Still
