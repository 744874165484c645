-- Counter: the counter that all rates look at, and when a rate fires.
-- Noise: the noise generator.
-- Inside: the fields of a clock.
pub mod Counter
pub mod Noise
pub mod Inside
