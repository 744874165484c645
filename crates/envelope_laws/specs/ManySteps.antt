-- How an envelope moves over several samples, and how many of them a rise or a release takes.
use Rattle.std.specs.Prelude.{◌≡◌, ◌≢◌, ℕ, ◌-◌, ◌*◌, ◌%◌, ◌<◌, ◌≤◌, pos}
use Rattle.envelope.specs.Envelope.{EnvelopeState}
use Rattle.envelope.specs.Steps.{envelope_after}
use Rattle.envelope.specs.declared.Mode.TheVariants.{Attack, Release}

-- a release falls by 8 in each sample, and changes nothing else
abbrev pub ReleaseFalls : Type 0
ReleaseFalls =
    (n : ℕ) (e : EnvelopeState) (adsr1 adsr2 gain : ℕ) (counter : ℕ → ℕ) → e.mode ≡ Release
    → envelope_after n e adsr1 adsr2 gain counter ≡ record e { level = e.level - 8 * n }

-- and is at 0 after 256 samples at most
abbrev pub ReleaseEnds : Type 0
ReleaseEnds =
    (e : EnvelopeState) (adsr1 adsr2 gain : ℕ) (counter : ℕ → ℕ) → e.mode ≡ Release → e.level ≤ 0x7ff
    → (envelope_after 256 e adsr1 adsr2 gain counter).level ≡ 0

-- a rise from 0 takes so many samples: it is below 7FFh in each of those before, and at 7FFh after them
pub record RisesIn (samples : ℕ) (level : ℕ → ℕ) : Type 0 where
  pub below : (n : ℕ) → n < samples → level n < 0x7ff
  pub at_top : level samples ≡ 0x7ff

-- attack with rate Fh
abbrev pub FastAttackTime : Type 0
FastAttackTime =
    (e : EnvelopeState) (adsr1 adsr2 gain : ℕ) (counter : ℕ → ℕ) → e.mode ≡ Attack → e.level ≡ 0 → 0x80 ≤ adsr1 → adsr1 % 16 ≡ 15
    → RisesIn 2 (λ n. (envelope_after n e adsr1 adsr2 gain counter).level)

-- the linear rise of GAIN at rate 1Fh
abbrev pub LinearRiseTime : Type 0
LinearRiseTime =
    (e : EnvelopeState) (adsr1 adsr2 : ℕ) (counter : ℕ → ℕ) → e.mode ≢ Release → e.level ≡ 0 → adsr1 < 0x80
    → RisesIn 64 (λ n. (envelope_after n e adsr1 adsr2 0xdf counter).level)

-- the bent rise of GAIN at rate 1Fh, where the hidden value starts with the level
abbrev pub BentRiseTime : Type 0
BentRiseTime =
    (e : EnvelopeState) (adsr1 adsr2 : ℕ) (counter : ℕ → ℕ) → e.mode ≢ Release → e.level ≡ 0 → e.hidden ≡ pos 0 → adsr1 < 0x80
    → RisesIn 112 (λ n. (envelope_after n e adsr1 adsr2 0xff counter).level)
