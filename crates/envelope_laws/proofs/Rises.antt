-- The levels of rises from 0 and of a release, sample by sample.
use Rattle.std.proofs.Common.{◌≡◌, ◌≢◌, ℕ, zero, suc, ◌+◌, ◌-◌, ◌*◌, ◌%◌, ◌<◌, ◌≤◌, min, Bool, true, false, nat_lt, ℤ, pos, int_lt, Some, if◌then◌else◌, refl, sym, ap, ◌∙◌, inl, inr, arith}
use Rattle.std.specs.Ordering.{int_eq}
use Rattle.std.proofs.lemmas.Bool.{cases_lt}
use Rattle.std.proofs.lemmas.Bool.Decides.{nat_tests}
use Rattle.num_fix.specs.Arithmetic.{floor_shift}
use Rattle.envelope.specs.declared.target.Target.{Target}
use Rattle.envelope.specs.declared.Mode.{Mode}
use Rattle.envelope.specs.declared.Mode.TheVariants.{Attack, Decay, Sustain, Release}
use Rattle.envelope.specs.Envelope.{EnvelopeState, attack_target, is_level, slope_value, step_target, sustain_level, next_mode, nearest_level, after_target, envelope_step}
use Rattle.envelope.specs.Steps.{envelope_after}
use Rattle.envelope.proofs.Still.{mode_after, hidden_after, level_after}
use Rattle.envelope_laws.specs.ManySteps.{ReleaseFalls, ReleaseEnds, FastAttackTime, LinearRiseTime, BentRiseTime}
use Rattle.envelope_laws.proofs.Targets.{fires-31, attack-aims, slope-aims, bent_value, fast_attack_rises, gain_rises}

-- one sample of a release
release_step : (e : EnvelopeState) (adsr1 adsr2 gain counter : ℕ) → e.mode ≡ Release → envelope_step e adsr1 adsr2 gain counter ≡ record e { level = e.level - 8 }
unfolding envelope_step step_target after_target
release_step e adsr1 adsr2 gain counter is =
    ap (λ (m : Mode). after_target e (step_target m e.level e.hidden adsr1 adsr2 gain) (sustain_level adsr1 adsr2 gain) counter) is

pub release_falls : ReleaseFalls
unfolding envelope_after
release_falls zero e adsr1 adsr2 gain counter is =
    let same : e.level ≡ e.level - 8 * 0 = omega arith in
    ap (λ (l : ℕ). record e { level = l }) same
release_falls (suc n) e adsr1 adsr2 gain counter is =
    let before = release_falls n e adsr1 adsr2 gain counter is in
    let further : e.level - 8 * n - 8 ≡ e.level - 8 * suc n = omega arith in
    ap (λ (s : EnvelopeState). envelope_step s adsr1 adsr2 gain (counter n)) before
    ∙ release_step (record e { level = e.level - 8 * n }) adsr1 adsr2 gain (counter n) is
    ∙ ap (λ (l : ℕ). record e { level = l }) further

pub release_ends : ReleaseEnds
release_ends e adsr1 adsr2 gain counter is most =
    let none : e.level - 8 * 256 ≡ 0 = omega (arith, most) in
    ap (λ (s : EnvelopeState). s.level) (release_falls 256 e adsr1 adsr2 gain counter is) ∙ none

-- only a key off or silence begins a release
next_mode-sounding : (m : Mode) (value : ℤ) (sustain : ℕ) → m ≢ Release → next_mode m value sustain ≢ Release
unfolding next_mode
next_mode-sounding Attack value sustain other = by (is_level value)
  where
    by : (b : Bool) → (if b then Attack else Decay) ≢ Release
    by true = λ e. cc
    by false = λ e. cc
next_mode-sounding Decay value sustain other = by (int_eq (floor_shift value 8) (pos sustain))
  where
    by : (b : Bool) → (if b then Sustain else Decay) ≢ Release
    by true = λ e. cc
    by false = λ e. cc
next_mode-sounding Sustain value sustain other = other
next_mode-sounding Release value sustain other = other

sounding-step : (e : EnvelopeState) (target : Target) (adsr1 adsr2 gain counter : ℕ) → step_target e.mode e.level e.hidden adsr1 adsr2 gain ≡ Some target → e.mode ≢ Release
    → (envelope_step e adsr1 adsr2 gain counter).mode ≢ Release
sounding-step e target adsr1 adsr2 gain counter aims other is =
    next_mode-sounding e.mode target.value (sustain_level adsr1 adsr2 gain) other (sym (mode_after e adsr1 adsr2 gain counter target aims) ∙ is)

-- attack with rate Fh
attack_goes_on : (e : EnvelopeState) (adsr1 adsr2 gain counter : ℕ) → e.mode ≡ Attack → e.level ≡ 0 → 0x80 ≤ adsr1 → adsr1 % 16 ≡ 15
    → (envelope_step e adsr1 adsr2 gain counter).mode ≡ Attack
unfolding attack_target next_mode
attack_goes_on e adsr1 adsr2 gain counter is start h fast =
    mode_after e adsr1 adsr2 gain counter (attack_target e.level adsr1) (attack-aims e.mode e.level e.hidden adsr1 adsr2 gain is h)
    ∙ ap (λ (m : Mode). next_mode m (attack_target e.level adsr1).value (sustain_level adsr1 adsr2 gain)) is
    ∙ rw (start, fast) refl

pub fast_attack_time : FastAttackTime
unfolding envelope_after
fast_attack_time e adsr1 adsr2 gain counter is start h fast = record { below = below; at_top = second ∙ ap (λ (l : ℕ). min (l + 0x400) 0x7ff) first }
  where
    first : (envelope_step e adsr1 adsr2 gain (counter 0)).level ≡ 0x400
    first = fast_attack_rises e adsr1 adsr2 gain (counter 0) is h fast ∙ ap (λ (l : ℕ). min (l + 0x400) 0x7ff) start

    second : (envelope_step (envelope_step e adsr1 adsr2 gain (counter 0)) adsr1 adsr2 gain (counter 1)).level ≡ min ((envelope_step e adsr1 adsr2 gain (counter 0)).level + 0x400) 0x7ff
    second = fast_attack_rises (envelope_step e adsr1 adsr2 gain (counter 0)) adsr1 adsr2 gain (counter 1) (attack_goes_on e adsr1 adsr2 gain (counter 0) is start h fast) h fast

    below : (n : ℕ) → n < 2 → (envelope_after n e adsr1 adsr2 gain counter).level < 0x7ff
    below zero few = omega (arith, start)
    below (suc zero) few = omega (arith, first)
    below (suc (suc n)) few = absurd (omega (arith, few))

-- the linear rise
record IsLinear (n : ℕ) (s : EnvelopeState) : Type 0 where
  level : s.level ≡ min (0x20 * n) 0x7ff
  sounding : s.mode ≢ Release

linear : (n : ℕ) (e : EnvelopeState) (adsr1 adsr2 : ℕ) (counter : ℕ → ℕ) → e.mode ≢ Release → e.level ≡ 0 → adsr1 < 0x80 → IsLinear n (envelope_after n e adsr1 adsr2 0xdf counter)
unfolding envelope_after
linear zero e adsr1 adsr2 counter other start h = record { level = start; sounding = other }
linear (suc n) e adsr1 adsr2 counter other start h =
    let s : EnvelopeState = envelope_after n e adsr1 adsr2 0xdf counter in
    let before : IsLinear n s = linear n e adsr1 adsr2 counter other start h in
    let rise = gain_rises s adsr1 adsr2 0xdf (counter n) before.sounding h refl (fires-31 (counter n)) in
    let more : min (s.level + 0x20) 0x7ff ≡ min (0x20 * suc n) 0x7ff = omega (arith, before.level) in
    record {
      level = rise ∙ more;
      sounding = sounding-step s (record { value = slope_value 2 s.level s.hidden; rate = 31 }) adsr1 adsr2 0xdf (counter n) (slope-aims s.mode s.level s.hidden adsr1 adsr2 0xdf 2 before.sounding h refl (omega arith)) before.sounding;
    }

pub linear_rise_time : LinearRiseTime
linear_rise_time e adsr1 adsr2 counter other start h = record {
  below = λ n few. let at = (linear n e adsr1 adsr2 counter other start h).level in omega (arith, at, few);
  at_top = (linear 64 e adsr1 adsr2 counter other start h).level;
}

-- the bent rise: its value before it is limited to a level
abbrev bent_line : ℕ → ℕ
bent_line n = min (0x20 * n) (min (0x600 + 8 * (n - 48)) 0x807)

record IsBent (n : ℕ) (s : EnvelopeState) : Type 0 where
  level : s.level ≡ min (bent_line n) 0x7ff
  hidden : s.hidden ≡ pos (bent_line n)
  sounding : s.mode ≢ Release

-- what the bent rise aims at
bent_aim : (n level : ℕ) (hidden : ℤ) → level ≡ min (bent_line n) 0x7ff → hidden ≡ pos (bent_line n) → slope_value 3 level hidden ≡ pos (bent_line (suc n))
bent_aim n level hidden at value = elim (cases_lt (bent_line n) 0x600) [
  | inl below ↦
      let test : nat_lt (bent_line n) 0x600 ≡ true = grind (arith, nat_tests, below) in
      let steep : level + 0x20 ≡ bent_line (suc n) = omega (arith, at, below) in
      bent_value level hidden true (ap (λ (z : ℤ). int_lt z (pos 0x600)) value ∙ test) ∙ ap pos steep
  | inr above ↦
      let test : nat_lt (bent_line n) 0x600 ≡ false = grind (arith, nat_tests, above) in
      let flat : level + 8 ≡ bent_line (suc n) = omega (arith, at, above) in
      bent_value level hidden false (ap (λ (z : ℤ). int_lt z (pos 0x600)) value ∙ test) ∙ ap pos flat
]

bent_rise : (n : ℕ) (e : EnvelopeState) (adsr1 adsr2 : ℕ) (counter : ℕ → ℕ) → e.mode ≢ Release → e.level ≡ 0 → e.hidden ≡ pos 0 → adsr1 < 0x80
    → IsBent n (envelope_after n e adsr1 adsr2 0xff counter)
unfolding envelope_after
bent_rise zero e adsr1 adsr2 counter other start value h = record { level = start; hidden = value; sounding = other }
bent_rise (suc n) e adsr1 adsr2 counter other start value h =
    let s : EnvelopeState = envelope_after n e adsr1 adsr2 0xff counter in
    let before : IsBent n s = bent_rise n e adsr1 adsr2 counter other start value h in
    let target : Target = record { value = slope_value 3 s.level s.hidden; rate = 31 } in
    let aims = slope-aims s.mode s.level s.hidden adsr1 adsr2 0xff 3 before.sounding h refl (omega arith) in
    let aim = bent_aim n s.level s.hidden before.level before.hidden in
    record {
      level = level_after s adsr1 adsr2 0xff (counter n) target aims (fires-31 (counter n)) ∙ ap nearest_level aim;
      hidden = hidden_after s adsr1 adsr2 0xff (counter n) target aims ∙ aim;
      sounding = sounding-step s target adsr1 adsr2 0xff (counter n) aims before.sounding;
    }

pub bent_rise_time : BentRiseTime
bent_rise_time e adsr1 adsr2 counter other start value h = record {
  below = λ n few. let at = (bent_rise n e adsr1 adsr2 counter other start value h).level in omega (arith, at, few);
  at_top = (bent_rise 112 e adsr1 adsr2 counter other start value h).level;
}
