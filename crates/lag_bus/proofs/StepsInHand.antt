-- Steps on a bus in hand are those on the bus, which stays the same one.
use Rattle.std.proofs.Common.{◌≡◌, ℕ, ◌+◌, ◌-◌, Bool, true, false, nat_lt, refl, ◌∙◌, ap}
use Rattle.std.specs.Prelude.{if◌then◌else◌, ◌<◌}
use Rattle.spc700_exec.specs.declared.cpu.Cpu.{Cpu}
use Rattle.spc700_exec.specs.Bus.{BusMeaning, byte_read, after_read, after_write}
use Rattle.spc700_exec.specs.Script.{Script, Read, Write, End, cycles_at, outcome}
use Rattle.spc700_exec.specs.Instruction.{script, step_outcome}
use Rattle.chip_form.specs.ChipMeaning.{ChipMeaning}
use Rattle.lock_step.specs.StepsOfRun.{AreStepsOf}
use Rattle.lock_step.proofs.StepsTaken.{one_step_more}
use Rattle.lag_bus.specs.Lagging.{Lagging, lagging}
use Rattle.lag_bus.specs.LagEmits.{lag_emits}
use Rattle.lag_bus.specs.LagLaws.{lagging-lawful, emits_frames, emits_records}
use Rattle.lag_bus.specs.CachedClock.{CachedClock, cached}

module _ {B : Type 0} (bus : BusMeaning B) where
  -- a bus in hand after what was done to the bus
  abbrev pub in_hand : CachedClock B → Cpu × B → Cpu × CachedClock B
  in_hand r w = (w.0, record { name = r.name; samples = r.samples; bus = w.1 })

  rest_in_hand : (b : Bool) (cycles : ℕ) (cpu : Cpu) (r : CachedClock B)
      → (cpu, if b then (cached bus).pass r cycles else r) ≡ in_hand r (cpu, if b then bus.pass r.bus cycles else r.bus)
  rest_in_hand true cycles cpu r = refl
  rest_in_hand false cycles cpu r = refl

  outcome_in_hand : (it : Script) (start made : ℕ) (r : CachedClock B) → outcome (cached bus) start made it r ≡ in_hand r (outcome bus start made it r.bus)
  outcome_in_hand (Read at next) start made r =
      outcome_in_hand (next (byte_read bus at r.bus)) start (made + 1) (record { name = r.name; samples = r.samples; bus = after_read bus at r.bus })
  outcome_in_hand (Write at value next) start made r =
      outcome_in_hand next start (made + 1) (record { name = r.name; samples = r.samples; bus = after_write bus at value r.bus })
  outcome_in_hand (End cpu time) start made r = rest_in_hand (nat_lt made (cycles_at start time)) (cycles_at start time - made) cpu r

  step_in_hand : (cpu : Cpu) (r : CachedClock B) → step_outcome (cached bus) cpu r ≡ in_hand r (step_outcome bus cpu r.bus)
  step_in_hand cpu r = outcome_in_hand (script cpu) (bus.clock r.bus) 0 r

  -- a step on a bus in hand
  module _ (cpu next : Cpu) (r new : CachedClock B) (does : (next, new) ≡ step_outcome (cached bus) cpu r) where
    pub stepped_in_hand : (next, new.bus) ≡ step_outcome bus cpu r.bus
    stepped_in_hand = ap (λ (w : Cpu × CachedClock B). (w.0, w.1.bus)) (does ∙ step_in_hand cpu r)

    pub same_in_hand : new.name ≡ r.name
    same_in_hand = ap (λ (w : Cpu × CachedClock B). w.1.name) (does ∙ step_in_hand cpu r)

    pub same_run : new.samples ≡ r.samples
    same_run = ap (λ (w : Cpu × CachedClock B). w.1.samples) (does ∙ step_in_hand cpu r)

module _ {S : Type 0} (chip : ChipMeaning S) (samples : ℕ) (cpu : Cpu) (old : Lagging S) (here next : Cpu) where
  -- one step more on the bus
  pub one_step_on : (there new : Lagging S)
      → AreStepsOf (lagging chip) (lag_emits chip) samples cpu old here there → (lagging chip).due there < samples
      → (next, new) ≡ step_outcome (lagging chip) here there
      → AreStepsOf (lagging chip) (lag_emits chip) samples cpu old next new
  one_step_on there new = one_step_more (lagging chip) (lag_emits chip) samples cpu old (lagging-lawful chip) (emits_frames chip) (emits_records chip) here there next new
