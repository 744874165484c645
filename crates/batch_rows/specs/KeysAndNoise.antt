-- The keys and the noise of a batch, each by itself.
use Rattle.std.specs.Prelude.{◌≡◌, ℕ, zero, suc, ◌+◌, if◌then◌else◌}
use Rattle.rate_clock.specs.Counter.{counter_at, fires}
use Rattle.rate_clock.specs.Noise.{next_noise}
use Rattle.dsp_state.specs.declared.state.ChipState.{ChipState}

-- a state with the keys of another
abbrev pub with_keys_of : ChipState → (other : ChipState) → ChipState
with_keys_of s other = record s { hidden = record s.hidden { kon_pending = other.hidden.kon_pending; kon_latched = other.hidden.kon_latched } }

-- no key-on is pending, and none is latched
pub record IsUnkeyed (s : ChipState) : Type 0 where
  pub kon_pending : s.hidden.kon_pending ≡ 0
  pub kon_latched : s.hidden.kon_latched ≡ 0

-- the noise once so many samples are made, from number k on: it goes on where its rate fires
unfoldable pub noise_after : (rate k noise : ℕ) → (samples : ℕ) → ℕ
noise_after rate k noise zero = noise
noise_after rate k noise (suc j) =
    let now = noise_after rate k noise j in
    if fires rate (counter_at (k + j)) then next_noise now else now
