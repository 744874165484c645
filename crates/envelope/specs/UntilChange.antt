-- How many samples an envelope stays as it is.
use Rattle.std.specs.Prelude.{◌≡◌, ◌≢◌, ℕ, ◌+◌, ◌<◌}
use Rattle.rate_clock.specs.Counter.{counter_at}
use Rattle.envelope.specs.Envelope.{EnvelopeState, envelope_step}

-- an envelope is left as it is by its step at each of so many samples, from number k on
abbrev pub StaysFor : EnvelopeState → (adsr1 adsr2 gain k samples : ℕ) → Type 0
StaysFor e adsr1 adsr2 gain k samples = (j : ℕ) → j < samples → envelope_step e adsr1 adsr2 gain (counter_at (k + j)) ≡ e

-- the step at sample number k changes the envelope
abbrev pub ChangesAt : EnvelopeState → (adsr1 adsr2 gain k : ℕ) → Type 0
ChangesAt e adsr1 adsr2 gain k = envelope_step e adsr1 adsr2 gain (counter_at k) ≢ e

-- the greatest number of samples that is reported; also the answer where the envelope never changes
abbrev pub never_changes : ℕ
never_changes = 65535
