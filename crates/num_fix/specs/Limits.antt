-- How much sound there can be, and how much of an input is read.
use Rattle.std.specs.Prelude.{ℕ}

-- the most frames of a sound: an hour of 32,000 a second
abbrev pub max_frames : ℕ
max_frames = 115200000

-- the greatest number that a next sample may have, of a bus and of its chip
abbrev pub max_sample_number : ℕ
max_sample_number = 4000000000

-- the most bytes of an input that is no sound file: 1 MB
abbrev pub max_input : ℕ
max_input = 1048576
