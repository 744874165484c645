-- An envelope over several samples.
use Rattle.std.specs.Prelude.{ℕ, zero, suc}
use Rattle.envelope.specs.Envelope.{EnvelopeState, envelope_step}

-- the envelope after n samples with the same registers, at the counter of each sample
unfoldable pub envelope_after : (n : ℕ) → EnvelopeState → (adsr1 adsr2 gain : ℕ) → (counter : ℕ → ℕ) → EnvelopeState
envelope_after zero e adsr1 adsr2 gain counter = e
envelope_after (suc n) e adsr1 adsr2 gain counter = envelope_step (envelope_after n e adsr1 adsr2 gain counter) adsr1 adsr2 gain (counter n)
