-- What one step does to the level, mode by mode. A level is a number from 0 to 7FFh.
use Rattle.std.specs.Prelude.{◌≡◌, ◌≢◌, ℕ, ◌+◌, ◌-◌, ◌*◌, ◌/◌, ◌%◌, ◌<◌, ◌≤◌, min, true, false, pos, int_lt}
use Rattle.rate_clock.specs.Counter.{fires}
use Rattle.envelope.specs.Envelope.{EnvelopeState, envelope_step}
use Rattle.envelope.specs.declared.Mode.TheVariants.{Attack, Decay, Sustain, Release}

-- the level after one step
abbrev pub level_after_step : EnvelopeState → (adsr1 adsr2 gain counter : ℕ) → ℕ
level_after_step e adsr1 adsr2 gain counter = (envelope_step e adsr1 adsr2 gain counter).level

-- a level after an exponential fall: less 1, and less a 256th of the rest
abbrev pub fallen_level : ℕ → ℕ
fallen_level level = level - 1 - (level - 1) / 256

-- attack with rate Fh: by 400h in each sample
abbrev pub FastAttackRises : Type 0
FastAttackRises =
    (e : EnvelopeState) (adsr1 adsr2 gain counter : ℕ) → e.mode ≡ Attack → 0x80 ≤ adsr1 → adsr1 % 16 ≡ 15
    → level_after_step e adsr1 adsr2 gain counter ≡ min (e.level + 0x400) 0x7ff

-- attack with another rate: by 20h where it fires
abbrev pub AttackRises : Type 0
AttackRises =
    (e : EnvelopeState) (adsr1 adsr2 gain counter : ℕ) → e.mode ≡ Attack → 0x80 ≤ adsr1 → adsr1 % 16 ≢ 15
    → fires (2 * (adsr1 % 16) + 1) counter ≡ true
    → level_after_step e adsr1 adsr2 gain counter ≡ min (e.level + 0x20) 0x7ff

-- decay, at the rate of bits 4 to 6 of ADSR1
abbrev pub DecayFalls : Type 0
DecayFalls =
    (e : EnvelopeState) (adsr1 adsr2 gain counter : ℕ) → e.mode ≡ Decay → 0x80 ≤ adsr1 → e.level ≤ 0x7ff
    → fires (2 * (adsr1 / 16 % 8) + 0x10) counter ≡ true
    → level_after_step e adsr1 adsr2 gain counter ≡ fallen_level e.level

-- sustain, at the rate of the low 5 bits of ADSR2
abbrev pub SustainFalls : Type 0
SustainFalls =
    (e : EnvelopeState) (adsr1 adsr2 gain counter : ℕ) → e.mode ≡ Sustain → 0x80 ≤ adsr1 → e.level ≤ 0x7ff
    → fires (adsr2 % 32) counter ≡ true
    → level_after_step e adsr1 adsr2 gain counter ≡ fallen_level e.level

-- GAIN below 80h: its 7 bits are the high ones of the level, at once
abbrev pub LevelIsSet : Type 0
LevelIsSet =
    (e : EnvelopeState) (adsr1 adsr2 gain counter : ℕ) → e.mode ≢ Release → adsr1 < 0x80 → gain < 0x80
    → level_after_step e adsr1 adsr2 gain counter ≡ 16 * gain

-- GAIN 80h to 9Fh: a linear fall
abbrev pub GainFalls : Type 0
GainFalls =
    (e : EnvelopeState) (adsr1 adsr2 gain counter : ℕ) → e.mode ≢ Release → adsr1 < 0x80 → gain / 32 ≡ 4 → e.level ≤ 0x7ff
    → fires (gain % 32) counter ≡ true
    → level_after_step e adsr1 adsr2 gain counter ≡ e.level - 0x20

-- GAIN A0h to BFh: an exponential fall
abbrev pub GainFallsBent : Type 0
GainFallsBent =
    (e : EnvelopeState) (adsr1 adsr2 gain counter : ℕ) → e.mode ≢ Release → adsr1 < 0x80 → gain / 32 ≡ 5 → e.level ≤ 0x7ff
    → fires (gain % 32) counter ≡ true
    → level_after_step e adsr1 adsr2 gain counter ≡ fallen_level e.level

-- GAIN C0h to DFh: a linear rise
abbrev pub GainRises : Type 0
GainRises =
    (e : EnvelopeState) (adsr1 adsr2 gain counter : ℕ) → e.mode ≢ Release → adsr1 < 0x80 → gain / 32 ≡ 6
    → fires (gain % 32) counter ≡ true
    → level_after_step e adsr1 adsr2 gain counter ≡ min (e.level + 0x20) 0x7ff

-- GAIN E0h to FFh: a bent rise, first as the linear one
abbrev pub GainRisesBent : Type 0
GainRisesBent =
    (e : EnvelopeState) (adsr1 adsr2 gain counter : ℕ) → e.mode ≢ Release → adsr1 < 0x80 → gain / 32 ≡ 7
    → int_lt e.hidden (pos 0x600) ≡ true → fires (gain % 32) counter ≡ true
    → level_after_step e adsr1 adsr2 gain counter ≡ min (e.level + 0x20) 0x7ff

-- and from the hidden value 600h on by 8
abbrev pub GainRisesSlowly : Type 0
GainRisesSlowly =
    (e : EnvelopeState) (adsr1 adsr2 gain counter : ℕ) → e.mode ≢ Release → adsr1 < 0x80 → gain / 32 ≡ 7
    → int_lt e.hidden (pos 0x600) ≡ false → fires (gain % 32) counter ≡ true
    → level_after_step e adsr1 adsr2 gain counter ≡ min (e.level + 8) 0x7ff

-- a level stays one
abbrev pub StaysWithin : Type 0
StaysWithin = (e : EnvelopeState) (adsr1 adsr2 gain counter : ℕ) → e.level ≤ 0x7ff → level_after_step e adsr1 adsr2 gain counter ≤ 0x7ff
