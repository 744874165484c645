-- Voices with a free-running envelope: while they aren't keyed, only the steps of their envelopes change the envelopes.
use Rattle.std.specs.Prelude.{◌≡◌, ℕ, List, Bool, true}
use Rattle.aram_core.specs.Memory.{byte_at}
use Rattle.envelope.specs.Envelope.{EnvelopeState}
use Rattle.envelope.specs.declared.Mode.TheVariants.{Release}
use Rattle.voice_unit.specs.Voice.{VoiceState, is_silencing}

-- an envelope that is released at level 0
pub record IsSilent (e : EnvelopeState) : Type 0 where
  pub mode : e.mode ≡ Release
  pub level : e.level ≡ 0

-- Where a voice isn't keyed, only the step of its envelope changes the envelope at its block: the voice has no delay, and what would silence or release it has
-- done so.
pub record HasFreeEnvelope (reset koff : Bool) (memory : List ℕ) (v : VoiceState) : Type 0 where
  pub delay : v.delay ≡ 0
  pub silencing : is_silencing reset (byte_at memory v.block) ≡ true → IsSilent v.envelope
  pub key_off : koff ≡ true → v.envelope.mode ≡ Release
