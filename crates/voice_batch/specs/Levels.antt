-- The levels of the samples of a span.
use Rattle.std.specs.Prelude.{ℕ, ◌+◌}
use Rattle.rate_clock.specs.Counter.{counter_at}
use Rattle.envelope.specs.Envelope.{EnvelopeState}
use Rattle.envelope.specs.Steps.{envelope_after}
use Rattle.voice_unit.specs.declared.interface.VoiceRegs.{VoiceRegs}

-- an envelope after its steps in so many samples, from number k on
unfoldable pub envelope_from : EnvelopeState → VoiceRegs → (k samples : ℕ) → EnvelopeState
envelope_from e r k samples = envelope_after samples e r.adsr1 r.adsr2 r.gain (λ j. counter_at (k + j))

-- sample j of those from number k on sounds at the level that the steps in the samples before it leave
abbrev pub level_in : EnvelopeState → VoiceRegs → (k j : ℕ) → ℕ
level_in e r k j = (envelope_from e r k j).level
