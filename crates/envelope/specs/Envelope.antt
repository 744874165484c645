-- One step of an envelope. The new value and its rate are one function, the mode's change a second, the level a third.
use Rattle.std.specs.Prelude.{ℕ, ◌+◌, ◌-◌, ◌*◌, ◌/◌, ◌%◌, Bool, ◌&&◌, not, ◌==◌, nat_lt, min, Option, Some, None, ℤ, pos, negsuc, ◌-ℤ◌, int_lt, if◌then◌else◌}
use Rattle.std.specs.Ordering.{int_eq}
use Rattle.num_fix.specs.Arithmetic.{floor_shift}
use Rattle.rate_clock.specs.Counter.{fires}
use Rattle.envelope.specs.declared.target.Target.{Target}
use Rattle.envelope.specs.declared.Mode.{Mode}
use Rattle.envelope.specs.declared.Mode.TheVariants.{Attack, Decay, Sustain, Release}

-- an envelope: its mode, its level, and its hidden value, which is the last new value before it was clamped
pub record EnvelopeState : Type 0 where
  pub mode : Mode
  pub level : ℕ
  pub hidden : ℤ

-- the exponential fall: by 1 and a 256th of the rest
unfoldable pub exponential_fall : ℕ → ℤ
exponential_fall level = let e = pos level -ℤ pos 1 in e -ℤ floor_shift e 8

-- attack under ADSR: a rise by 20h, and by 400h at rate 31
unfoldable pub attack_target : ℕ → ℕ → Target
attack_target level adsr1 =
    let rate = 2 * (adsr1 % 16) + 1 in
    record { value = pos (level + (if rate == 31 then 0x400 else 0x20)); rate = rate }

-- decay under ADSR
unfoldable pub decay_target : ℕ → ℕ → Target
decay_target level adsr1 = record { value = exponential_fall level; rate = 2 * (adsr1 / 16 % 8) + 0x10 }

-- sustain under ADSR
unfoldable pub sustain_target : ℕ → ℕ → Target
sustain_target level adsr2 = record { value = exponential_fall level; rate = adsr2 % 32 }

-- the four slopes of GAIN: linear fall, exponential fall, linear rise, and the bent rise, which slows down from the hidden value 600h on
unfoldable pub slope_value : ℕ → ℕ → ℤ → ℤ
slope_value kind level hidden =
    if kind == 0 then pos level -ℤ pos 0x20
    else if kind == 1 then exponential_fall level
    else if kind == 2 then pos (level + 0x20)
    else pos (level + (if int_lt hidden (pos 0x600) then 0x20 else 8))

-- GAIN: below 80h a fixed value, else one of the slopes
unfoldable pub gain_target : ℕ → ℕ → ℤ → Target
gain_target gain level hidden =
    if nat_lt gain 0x80 then record { value = pos (16 * gain); rate = 31 }
    else record { value = slope_value (gain / 32 % 4) level hidden; rate = gain % 32 }

-- GAIN rules where bit 7 of ADSR1 is clear
abbrev pub gain_rules : ℕ → Bool
gain_rules adsr1 = nat_lt adsr1 0x80

-- the new value and the rate of a step; in release there is none
unfoldable pub step_target : Mode → ℕ → ℤ → ℕ → ℕ → ℕ → Option Target
step_target Attack level hidden adsr1 adsr2 gain = Some (if gain_rules adsr1 then gain_target gain level hidden else attack_target level adsr1)
step_target Decay level hidden adsr1 adsr2 gain = Some (if gain_rules adsr1 then gain_target gain level hidden else decay_target level adsr1)
step_target Sustain level hidden adsr1 adsr2 gain = Some (if gain_rules adsr1 then gain_target gain level hidden else sustain_target level adsr2)
step_target Release level hidden adsr1 adsr2 gain = None

-- where decay ends: the top 3 bits of ADSR2, or of GAIN where it rules
unfoldable pub sustain_level : ℕ → ℕ → ℕ → ℕ
sustain_level adsr1 adsr2 gain = (if gain_rules adsr1 then gain else adsr2) / 32

-- a value that is no level is clamped
abbrev pub is_level : ℤ → Bool
is_level value = not (int_lt value (pos 0)) && not (int_lt (pos 0x7ff) value)

-- the mode after a step with this new value: attack ends where the value is clamped, decay at the sustain level
unfoldable pub next_mode : Mode → ℤ → ℕ → Mode
next_mode Attack value sustain = if is_level value then Attack else Decay
next_mode Decay value sustain = if int_eq (floor_shift value 8) (pos sustain) then Sustain else Decay
next_mode Sustain value sustain = Sustain
next_mode Release value sustain = Release

-- the level nearest to a value
abbrev pub nearest_level : ℤ → ℕ
nearest_level (pos n) = min n 0x7ff
nearest_level (negsuc n) = 0

-- the level after a step: the new value, clamped, where its rate fires
unfoldable pub next_level : ℕ → Target → ℕ → ℕ
next_level level target counter = if fires target.rate counter then nearest_level target.value else level

-- one step of an envelope at a counter: in release the level falls by 8 and nothing else changes
unfoldable pub after_target : EnvelopeState → Option Target → ℕ → ℕ → EnvelopeState
after_target s None sustain counter = record s { level = s.level - 8 }
after_target s (Some target) sustain counter = record {
  mode = next_mode s.mode target.value sustain;
  level = next_level s.level target counter;
  hidden = target.value;
}

-- one step of an envelope, by ADSR1, ADSR2 and GAIN at a counter
unfoldable pub envelope_step : EnvelopeState → ℕ → ℕ → ℕ → ℕ → EnvelopeState
envelope_step s adsr1 adsr2 gain counter =
    after_target s (step_target s.mode s.level s.hidden adsr1 adsr2 gain) (sustain_level adsr1 adsr2 gain) counter
