-- The noise generator: a list of 15-bit numbers.
use Rattle.std.specs.Prelude.{ℕ, zero, suc, ◌+◌, ◌/◌, ◌%◌, ◌==◌, if◌then◌else◌}

-- the noise after n: half of n, with a new top bit where the two lowest bits of n differ
unfoldable pub next_noise : ℕ → ℕ
next_noise n = n / 2 + (if n % 2 == n / 2 % 2 then 0 else 0x4000)

-- entry k of the list of noise
abbrev pub noise_at : ℕ → ℕ
noise_at zero = 0x4000
noise_at (suc k) = next_noise (noise_at k)
