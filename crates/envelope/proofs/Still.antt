-- Steps that leave an envelope as it is.
use Rattle.std.proofs.Common.{◌≡◌, ℕ, ◌-◌, Bool, true, false, Some, None, refl, arith}
use Rattle.rate_clock.specs.Counter.{fires}
use Rattle.envelope.specs.declared.target.Target.{Target}
use Rattle.envelope.specs.Envelope.{EnvelopeState, step_target, sustain_level, next_mode, nearest_level, next_level, after_target, envelope_step}

-- An envelope is at its target: its new value is the hidden value that is there, and its mode stays. So a step can change its level alone.
pub record IsAtTarget (e : EnvelopeState) (adsr1 adsr2 gain : ℕ) (target : Target) : Type 0 where
  pub aim : step_target e.mode e.level e.hidden adsr1 adsr2 gain ≡ Some target
  pub value : target.value ≡ e.hidden
  pub mode : next_mode e.mode target.value (sustain_level adsr1 adsr2 gain) ≡ e.mode

-- a step with no firing leaves it as it is
pub envelope_step-unfired : (e : EnvelopeState) (adsr1 adsr2 gain counter : ℕ) (target : Target) → IsAtTarget e adsr1 adsr2 gain target → fires target.rate counter ≡ false
    → envelope_step e adsr1 adsr2 gain counter ≡ e
unfolding envelope_step after_target next_level
envelope_step-unfired e adsr1 adsr2 gain counter target at quiet = rw (at.aim, quiet, at.mode, at.value) refl

-- nor does any step, where the new value is no other level
pub envelope_step-same_level : (e : EnvelopeState) (adsr1 adsr2 gain counter : ℕ) (target : Target) → IsAtTarget e adsr1 adsr2 gain target → nearest_level target.value ≡ e.level
    → envelope_step e adsr1 adsr2 gain counter ≡ e
unfolding envelope_step after_target next_level
envelope_step-same_level e adsr1 adsr2 gain counter target at same = by (fires target.rate counter) refl
  where
    by : (b : Bool) → fires target.rate counter ≡ b → after_target e (step_target e.mode e.level e.hidden adsr1 adsr2 gain) (sustain_level adsr1 adsr2 gain) counter ≡ e
    by true now = rw (at.aim, now, same, at.mode, at.value) refl
    by false now = rw (at.aim, now, at.mode, at.value) refl

-- in release a step leaves level 0
pub envelope_step-released : (e : EnvelopeState) (adsr1 adsr2 gain counter : ℕ) → step_target e.mode e.level e.hidden adsr1 adsr2 gain ≡ None → e.level ≡ 0
    → envelope_step e adsr1 adsr2 gain counter ≡ e
unfolding envelope_step after_target
envelope_step-released e adsr1 adsr2 gain counter none zero = let still : e.level - 8 ≡ e.level = omega (arith, zero) in rw (none, still) refl

-- what a step makes of the mode, of the hidden value, and of the level where the rate fires
pub mode_after : (e : EnvelopeState) (adsr1 adsr2 gain counter : ℕ) (target : Target) → step_target e.mode e.level e.hidden adsr1 adsr2 gain ≡ Some target
    → (envelope_step e adsr1 adsr2 gain counter).mode ≡ next_mode e.mode target.value (sustain_level adsr1 adsr2 gain)
unfolding envelope_step after_target
mode_after e adsr1 adsr2 gain counter target aim = rw aim refl

pub hidden_after : (e : EnvelopeState) (adsr1 adsr2 gain counter : ℕ) (target : Target) → step_target e.mode e.level e.hidden adsr1 adsr2 gain ≡ Some target
    → (envelope_step e adsr1 adsr2 gain counter).hidden ≡ target.value
unfolding envelope_step after_target
hidden_after e adsr1 adsr2 gain counter target aim = rw aim refl

pub level_after : (e : EnvelopeState) (adsr1 adsr2 gain counter : ℕ) (target : Target) → step_target e.mode e.level e.hidden adsr1 adsr2 gain ≡ Some target
    → fires target.rate counter ≡ true → (envelope_step e adsr1 adsr2 gain counter).level ≡ nearest_level target.value
unfolding envelope_step after_target next_level
level_after e adsr1 adsr2 gain counter target aim now = rw (aim, now) refl

-- and in release it takes 8 from the level
pub level_released : (e : EnvelopeState) (adsr1 adsr2 gain counter : ℕ) → step_target e.mode e.level e.hidden adsr1 adsr2 gain ≡ None
    → (envelope_step e adsr1 adsr2 gain counter).level ≡ e.level - 8
unfolding envelope_step after_target
level_released e adsr1 adsr2 gain counter none = rw none refl
