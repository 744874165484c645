-- The interpolation of four samples by a table of 512 signed weights.
use Rattle.std.specs.Prelude.{ℕ, ◌+◌, ◌-◌, List, ℤ, ◌+ℤ◌}
use Rattle.num_fix.specs.Arithmetic.{scaled, wrap16, clamp16, clear_bit0}
use Rattle.num_fix.specs.SignedWords.{number_at}

-- what one sample gives under its weight
abbrev pub tap : ℤ → ℤ → ℤ
tap weight sample = scaled weight sample 11

-- what comes of four taps, oldest first: the sum of the three older ones is wrapped, and the sum with the newest is clamped
unfoldable pub mix_of : (oldest older newer newest : ℤ) → ℤ
mix_of oldest older newer newest = clear_bit0 (clamp16 (wrap16 (oldest +ℤ older +ℤ newer) +ℤ newest))

-- the interpolation of four samples, oldest first, at place i of 256 between the middle two
unfoldable pub mix : List ℤ → ℕ → ℤ → ℤ → ℤ → ℤ → ℤ
mix table i x0 x1 x2 x3 =
    mix_of (tap (number_at table (255 - i)) x0) (tap (number_at table (511 - i)) x1) (tap (number_at table (256 + i)) x2) (tap (number_at table i) x3)
