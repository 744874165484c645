-- What a step aims at, mode by mode, and the level that it takes.
use Rattle.std.proofs.Common.{◌≡◌, ◌≢◌, ℕ, zero, suc, ◌+◌, ◌-◌, ◌*◌, ◌/◌, ◌%◌, ◌<◌, ◌≤◌, ◌==◌, min, Bool, true, false, nat_lt, ℤ, pos, negsuc, ◌-ℤ◌, int_lt, Option, Some, None, if◌then◌else◌, refl, sym, ap, ◌∙◌, inl, inr, arith}
use Rattle.std.proofs.lemmas.Bool.{cases_lt}
use Rattle.std.proofs.lemmas.Bool.Decides.{nat_tests}
use Rattle.std.proofs.lemmas.Int.{ints}
use Rattle.num_fix.specs.Arithmetic.{floor_shift}
use Rattle.rate_clock.specs.Counter.{fires}
use Rattle.envelope.specs.declared.target.Target.{Target}
use Rattle.envelope.specs.declared.Mode.{Mode}
use Rattle.envelope.specs.declared.Mode.TheVariants.{Attack, Decay, Sustain, Release}
use Rattle.envelope.specs.Envelope.{EnvelopeState, exponential_fall, attack_target, decay_target, sustain_target, slope_value, gain_rules, gain_target, step_target, sustain_level, nearest_level, next_level, after_target, envelope_step}
use Rattle.envelope.proofs.Still.{level_after}
use Rattle.envelope_laws.specs.OneStep.{fallen_level, FastAttackRises, AttackRises, DecayFalls, SustainFalls, LevelIsSet, GainFalls, GainFallsBent, GainRises, GainRisesBent, GainRisesSlowly, StaysWithin}

-- rate 31 fires always
pub fires-31 : (counter : ℕ) → fires 31 counter ≡ true
unfolding fires
fires-31 counter = let none : (counter + 0) % 1 ≡ 0 = omega arith in rw none refl

adsr_rules : (adsr1 : ℕ) → 0x80 ≤ adsr1 → gain_rules adsr1 ≡ false
adsr_rules adsr1 h = grind (arith, nat_tests, h)

-- under ADSR
pub attack-aims : (m : Mode) (level : ℕ) (hidden : ℤ) (adsr1 adsr2 gain : ℕ) → m ≡ Attack → 0x80 ≤ adsr1
    → step_target m level hidden adsr1 adsr2 gain ≡ Some (attack_target level adsr1)
unfolding step_target
attack-aims m level hidden adsr1 adsr2 gain is h =
    let rules = adsr_rules adsr1 h in
    ap (λ (m : Mode). step_target m level hidden adsr1 adsr2 gain) is ∙ ap (λ (b : Bool). Some (if b then gain_target gain level hidden else attack_target level adsr1)) rules

pub decay-aims : (m : Mode) (level : ℕ) (hidden : ℤ) (adsr1 adsr2 gain : ℕ) → m ≡ Decay → 0x80 ≤ adsr1
    → step_target m level hidden adsr1 adsr2 gain ≡ Some (decay_target level adsr1)
unfolding step_target
decay-aims m level hidden adsr1 adsr2 gain is h =
    let rules = adsr_rules adsr1 h in
    ap (λ (m : Mode). step_target m level hidden adsr1 adsr2 gain) is ∙ ap (λ (b : Bool). Some (if b then gain_target gain level hidden else decay_target level adsr1)) rules

pub sustain-aims : (m : Mode) (level : ℕ) (hidden : ℤ) (adsr1 adsr2 gain : ℕ) → m ≡ Sustain → 0x80 ≤ adsr1
    → step_target m level hidden adsr1 adsr2 gain ≡ Some (sustain_target level adsr2)
unfolding step_target
sustain-aims m level hidden adsr1 adsr2 gain is h =
    let rules = adsr_rules adsr1 h in
    ap (λ (m : Mode). step_target m level hidden adsr1 adsr2 gain) is ∙ ap (λ (b : Bool). Some (if b then gain_target gain level hidden else sustain_target level adsr2)) rules

-- under GAIN
pub gain-aims : (m : Mode) (level : ℕ) (hidden : ℤ) (adsr1 adsr2 gain : ℕ) → m ≢ Release → adsr1 < 0x80
    → step_target m level hidden adsr1 adsr2 gain ≡ Some (gain_target gain level hidden)
unfolding step_target
gain-aims Attack level hidden adsr1 adsr2 gain other h =
    let rules : gain_rules adsr1 ≡ true = grind (arith, nat_tests, h) in
    ap (λ (b : Bool). Some (if b then gain_target gain level hidden else attack_target level adsr1)) rules
gain-aims Decay level hidden adsr1 adsr2 gain other h =
    let rules : gain_rules adsr1 ≡ true = grind (arith, nat_tests, h) in
    ap (λ (b : Bool). Some (if b then gain_target gain level hidden else decay_target level adsr1)) rules
gain-aims Sustain level hidden adsr1 adsr2 gain other h =
    let rules : gain_rules adsr1 ≡ true = grind (arith, nat_tests, h) in
    ap (λ (b : Bool). Some (if b then gain_target gain level hidden else sustain_target level adsr2)) rules
gain-aims Release level hidden adsr1 adsr2 gain other h = absurd (other refl)

-- a slope of GAIN
pub slope-aims : (m : Mode) (level : ℕ) (hidden : ℤ) (adsr1 adsr2 gain kind : ℕ) → m ≢ Release → adsr1 < 0x80 → gain / 32 ≡ 4 + kind → kind < 4
    → step_target m level hidden adsr1 adsr2 gain ≡ Some (record { value = slope_value kind level hidden; rate = gain % 32 })
unfolding gain_target
slope-aims m level hidden adsr1 adsr2 gain kind other h bits few =
    let high : nat_lt gain 0x80 ≡ false = let above : 0x80 ≤ gain = omega (arith, bits) in grind (arith, nat_tests, above) in
    let same : gain / 32 % 4 ≡ kind = omega (arith, bits, few) in
    gain-aims m level hidden adsr1 adsr2 gain other h
    ∙ ap (λ (b : Bool). Some (if b then record { value = pos (16 * gain); rate = 31 } else record { value = slope_value (gain / 32 % 4) level hidden; rate = gain % 32 })) high
    ∙ ap (λ (k : ℕ). Some (record { value = slope_value k level hidden; rate = gain % 32 })) same

-- the level nearest to a difference
pub nearest_level-sub : (a b : ℕ) → a ≤ 0x7ff → nearest_level (pos a -ℤ pos b) ≡ a - b
nearest_level-sub a b most = elim (cases_lt a b) [
  | inl below ↦
      let negative : pos a -ℤ pos b ≡ negsuc (b - a - 1) = omega (arith, ints, below) in
      let none : a - b ≡ 0 = omega (arith, below) in
      ap nearest_level negative ∙ sym none
  | inr above ↦
      let positive : pos a -ℤ pos b ≡ pos (a - b) = omega (arith, ints, above) in
      let few : min (a - b) 0x7ff ≡ a - b = omega (arith, most) in
      ap nearest_level positive ∙ few
]

-- the exponential fall of a level
pub nearest_level-fall : (level : ℕ) → level ≤ 0x7ff → nearest_level (exponential_fall level) ≡ fallen_level level
unfolding exponential_fall floor_shift
nearest_level-fall zero most = refl
nearest_level-fall (suc n) most =
    let less : pos (suc n) -ℤ pos 1 ≡ pos n = omega (arith, ints) in
    let before : suc n - 1 ≡ n = omega arith in
    ap (λ (e : ℤ). nearest_level (e -ℤ floor_shift e 8)) less ∙ nearest_level-sub n (n / 256) (omega arith) ∙ ap (λ (k : ℕ). k - k / 256) (sym before)

pub nearest_level-within : (z : ℤ) → nearest_level z ≤ 0x7ff
nearest_level-within (pos n) = omega arith
nearest_level-within (negsuc n) = omega arith

-- the laws of one step
pub fast_attack_rises : FastAttackRises
unfolding attack_target
fast_attack_rises e adsr1 adsr2 gain counter is h fast =
    let aims : attack_target e.level adsr1 ≡ record { value = pos (e.level + 0x400); rate = 31 } = rw fast refl in
    level_after e adsr1 adsr2 gain counter (record { value = pos (e.level + 0x400); rate = 31 })
    (attack-aims e.mode e.level e.hidden adsr1 adsr2 gain is h ∙ ap (λ (t : Target). Some t) aims) (fires-31 counter)

pub attack_rises : AttackRises
unfolding attack_target
attack_rises e adsr1 adsr2 gain counter is h other fired =
    let slow : (2 * (adsr1 % 16) + 1 == 31) ≡ false = let apart : 2 * (adsr1 % 16) + 1 ≢ 31 = λ e. other (omega (arith, e)) in grind (arith, nat_tests, apart) in
    let aims : attack_target e.level adsr1 ≡ record { value = pos (e.level + 0x20); rate = 2 * (adsr1 % 16) + 1 } = rw slow refl in
    level_after e adsr1 adsr2 gain counter (record { value = pos (e.level + 0x20); rate = 2 * (adsr1 % 16) + 1 })
    (attack-aims e.mode e.level e.hidden adsr1 adsr2 gain is h ∙ ap (λ (t : Target). Some t) aims) fired

pub decay_falls : DecayFalls
unfolding decay_target
decay_falls e adsr1 adsr2 gain counter is h most fired =
    level_after e adsr1 adsr2 gain counter (decay_target e.level adsr1) (decay-aims e.mode e.level e.hidden adsr1 adsr2 gain is h) fired ∙ nearest_level-fall e.level most

pub sustain_falls : SustainFalls
unfolding sustain_target
sustain_falls e adsr1 adsr2 gain counter is h most fired =
    level_after e adsr1 adsr2 gain counter (sustain_target e.level adsr2) (sustain-aims e.mode e.level e.hidden adsr1 adsr2 gain is h) fired ∙ nearest_level-fall e.level most

pub level_is_set : LevelIsSet
unfolding gain_target
level_is_set e adsr1 adsr2 gain counter other h low =
    let fixed : nat_lt gain 0x80 ≡ true = grind (arith, nat_tests, low) in
    let few : min (16 * gain) 0x7ff ≡ 16 * gain = omega (arith, low) in
    level_after e adsr1 adsr2 gain counter (record { value = pos (16 * gain); rate = 31 })
    (gain-aims e.mode e.level e.hidden adsr1 adsr2 gain other h
    ∙ ap (λ (b : Bool). Some (if b then record { value = pos (16 * gain); rate = 31 } else record { value = slope_value (gain / 32 % 4) e.level e.hidden; rate = gain % 32 })) fixed)
    (fires-31 counter)
    ∙ few

pub gain_falls : GainFalls
unfolding slope_value
gain_falls e adsr1 adsr2 gain counter other h bits most fired =
    level_after e adsr1 adsr2 gain counter (record { value = slope_value 0 e.level e.hidden; rate = gain % 32 })
    (slope-aims e.mode e.level e.hidden adsr1 adsr2 gain 0 other h bits (omega arith)) fired
    ∙ nearest_level-sub e.level 0x20 most

pub gain_falls_bent : GainFallsBent
unfolding slope_value
gain_falls_bent e adsr1 adsr2 gain counter other h bits most fired =
    level_after e adsr1 adsr2 gain counter (record { value = slope_value 1 e.level e.hidden; rate = gain % 32 })
    (slope-aims e.mode e.level e.hidden adsr1 adsr2 gain 1 other h bits (omega arith)) fired
    ∙ nearest_level-fall e.level most

pub gain_rises : GainRises
unfolding slope_value
gain_rises e adsr1 adsr2 gain counter other h bits fired =
    level_after e adsr1 adsr2 gain counter (record { value = slope_value 2 e.level e.hidden; rate = gain % 32 })
    (slope-aims e.mode e.level e.hidden adsr1 adsr2 gain 2 other h bits (omega arith)) fired

pub bent_value : (level : ℕ) (hidden : ℤ) (b : Bool) → int_lt hidden (pos 0x600) ≡ b → slope_value 3 level hidden ≡ pos (level + (if b then 0x20 else 8))
unfolding slope_value
bent_value level hidden b is = ap (λ (b : Bool). pos (level + (if b then 0x20 else 8))) is

pub gain_rises_bent : GainRisesBent
gain_rises_bent e adsr1 adsr2 gain counter other h bits below fired =
    level_after e adsr1 adsr2 gain counter (record { value = slope_value 3 e.level e.hidden; rate = gain % 32 })
    (slope-aims e.mode e.level e.hidden adsr1 adsr2 gain 3 other h bits (omega arith)) fired
    ∙ ap nearest_level (bent_value e.level e.hidden true below)

pub gain_rises_slowly : GainRisesSlowly
gain_rises_slowly e adsr1 adsr2 gain counter other h bits above fired =
    level_after e adsr1 adsr2 gain counter (record { value = slope_value 3 e.level e.hidden; rate = gain % 32 })
    (slope-aims e.mode e.level e.hidden adsr1 adsr2 gain 3 other h bits (omega arith)) fired
    ∙ ap nearest_level (bent_value e.level e.hidden false above)

within_target : (e : EnvelopeState) (target : Option Target) (sustain counter : ℕ) → e.level ≤ 0x7ff → (after_target e target sustain counter).level ≤ 0x7ff
unfolding after_target next_level
within_target e None sustain counter within = omega (arith, within)
within_target e (Some target) sustain counter within = by (fires target.rate counter)
  where
    by : (b : Bool) → (if b then nearest_level target.value else e.level) ≤ 0x7ff
    by true = nearest_level-within target.value
    by false = within

pub stays_within : StaysWithin
unfolding envelope_step
stays_within e adsr1 adsr2 gain counter within = within_target e (step_target e.mode e.level e.hidden adsr1 adsr2 gain) (sustain_level adsr1 adsr2 gain) counter within
