-- A bus with something beside it: where its calls leave and answer what those of another bus do, so do its runs.
use Rattle.std.proofs.Common.{◌≡◌, ℕ, zero, suc, ◌+◌, ◌-◌, ◌*◌, Bool, true, false, nat_le, nat_lt, refl, ◌∙◌, ap}
use Rattle.std.specs.Prelude.{if◌then◌else◌}
use Rattle.spc700_exec.specs.Bus.{BusMeaning, byte_read, after_read, after_write}
use Rattle.spc700_exec.specs.Script.{Script, Read, Write, End, cycles_at, outcome}
use Rattle.spc700_exec.specs.Instruction.{script}
use Rattle.render_core.specs.MachineRun.{Whole, after_step, after_steps, after_run}
use Rattle.spc700_exec.specs.declared.bus.TheConstants.{CYCLES_PER_SAMPLE}

-- `seen` is the other bus
pub record IsSeen {S T : Type 0} (bus : BusMeaning S) (other : BusMeaning T) (seen : S → T) : Type 0 where
  pub byte : (s : S) (at : ℕ) → (other.read (seen s) at).0 ≡ (bus.read s at).0
  pub read : (s : S) (at : ℕ) → (other.read (seen s) at).1 ≡ seen (bus.read s at).1
  pub write : (s : S) (at value : ℕ) → other.write (seen s) at value ≡ seen (bus.write s at value)
  pub pass : (s : S) (cycles : ℕ) → other.pass (seen s) cycles ≡ seen (bus.pass s cycles)
  pub clock : (s : S) → other.clock (seen s) ≡ bus.clock s
  pub due : (s : S) → other.due (seen s) ≡ bus.due s

module _ {S T : Type 0} (bus : BusMeaning S) (other : BusMeaning T) (seen : S → T) (law : IsSeen bus other seen) where
  -- the processor with the other bus
  abbrev seen_whole : Whole S → Whole T
  seen_whole w = (w.0, seen w.1)

  seen-rest : (b : Bool) (cycles : ℕ) (s : S) → (if b then other.pass (seen s) cycles else seen s) ≡ seen (if b then bus.pass s cycles else s)
  seen-rest true cycles s = law.pass s cycles
  seen-rest false cycles s = refl

  seen-outcome : (it : Script) (start made : ℕ) (s : S) → outcome other start made it (seen s) ≡ seen_whole (outcome bus start made it s)
  seen-outcome (Read at next) start made s =
      let passed = law.pass s 1 in
      let byte : byte_read other at (seen s) ≡ byte_read bus at s = ap (λ (t : T). (other.read t at).0) passed ∙ law.byte (bus.pass s 1) at in
      let after : after_read other at (seen s) ≡ seen (after_read bus at s) = ap (λ (t : T). (other.read t at).1) passed ∙ law.read (bus.pass s 1) at in
      (λ i. outcome other start (made + 1) (next (byte i)) (after i)) ∙ seen-outcome (next (byte_read bus at s)) start (made + 1) (after_read bus at s)
  seen-outcome (Write at value next) start made s =
      let after : after_write other at value (seen s) ≡ seen (after_write bus at value s) = ap (λ (t : T). other.write t at value) (law.pass s 1) ∙ law.write (bus.pass s 1) at value in
      ap (λ (t : T). outcome other start (made + 1) next t) after ∙ seen-outcome next start (made + 1) (after_write bus at value s)
  seen-outcome (End cpu time) start made s =
      ap (λ (t : T). (cpu, t)) (seen-rest (nat_lt made (cycles_at start time)) (cycles_at start time - made) s)

  seen-after_step : (w : Whole S) → after_step other (seen_whole w) ≡ seen_whole (after_step bus w)
  unfolding after_step
  seen-after_step w =
      ap (λ (start : ℕ). outcome other start 0 (script w.0) (seen w.1)) (law.clock w.1) ∙ seen-outcome (script w.0) (bus.clock w.1) 0 w.1

  seen-if : (b : Bool) (w v : Whole S) → (if b then seen_whole w else seen_whole v) ≡ seen_whole (if b then w else v)
  seen-if true w v = refl
  seen-if false w v = refl

  seen-after_steps : (samples steps : ℕ) (w : Whole S) → after_steps other samples steps (seen_whole w) ≡ seen_whole (after_steps bus samples steps w)
  seen-after_steps samples zero w = refl
  seen-after_steps samples (suc steps) w =
      let rest : after_steps other samples steps (after_step other (seen_whole w)) ≡ seen_whole (after_steps bus samples steps (after_step bus w)) =
      ap (λ (v : Whole T). after_steps other samples steps v) (seen-after_step w) ∙ seen-after_steps samples steps (after_step bus w) in
      (λ i. if nat_le samples (law.due w.1 i) then seen_whole w else rest i) ∙ seen-if (nat_le samples (bus.due w.1)) w (after_steps bus samples steps (after_step bus w))

  pub seen-after_run : (samples : ℕ) (w : Whole S) → after_run other samples (seen_whole w) ≡ seen_whole (after_run bus samples w)
  unfolding after_run
  seen-after_run samples w =
      ap (λ (clock : ℕ). after_steps other samples (CYCLES_PER_SAMPLE * samples - clock) (seen_whole w)) (law.clock w.1) ∙ seen-after_steps samples (CYCLES_PER_SAMPLE * samples - bus.clock w.1) w
