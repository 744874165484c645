-- A run emits a frame for each sample.
use Rattle.std.proofs.Common.{◌≡◌, ℕ, zero, suc, ◌+◌, ◌-◌, ◌*◌, ◌/◌, ◌≤◌, ◌<◌, Bool, true, false, nat_le, nat_lt, List, length, refl, sym, ◌∙◌, ap, arith, inl, inr}
use Rattle.std.proofs.lemmas.Bool.{lt-leb, cases_lt}
use Rattle.std.specs.Prelude.{if◌then◌else◌, ◌%◌}
use Rattle.std.proofs.lemmas.Bool.Decides.{nat_tests}
use Rattle.spc700_exec.specs.Bus.{BusMeaning, IsLawful, byte_read, after_read, after_write}
use Rattle.spc700_exec.specs.Script.{Script, Read, Write, End, Cycles, ToSample, outcome}
use Rattle.spc700_exec.specs.Instruction.{script}
use Rattle.spc700_exec.specs.Length.{IsShort}
use Rattle.spc700_exec.proofs.Short.{IsShort-script}
use Rattle.num_fix.specs.declared.Frame.{Frame}
use Rattle.lock_step.specs.Emits.{IsFrameEach}
use Rattle.render_core.specs.MachineRun.{Whole, after_step, after_steps, after_run}
use Rattle.render_core.proofs.RunBySteps.{after_steps-reached, clock-after_step-least, clock-after_step-most}
use Rattle.spc700_exec.specs.declared.bus.TheConstants.{CYCLES_PER_SAMPLE}

module _ {S : Type 0} (bus : BusMeaning S) (lawful : IsLawful bus) (frames : S → List Frame) (law : IsFrameEach bus frames) where
  counted-either : (s : S) (b : Bool) (cycles : ℕ) → cycles ≤ CYCLES_PER_SAMPLE → length (frames (if b then bus.pass s cycles else s)) + bus.due s ≡ length (frames s) + bus.due (if b then bus.pass s cycles else s)
  counted-either s true cycles few = law.pass_frames s cycles few
  counted-either s false cycles few = refl

  -- as many frames are emitted as samples fall due
  counted-outcome : (t : Script) (k start made : ℕ) (s : S) → IsShort k t → length (frames (outcome bus start made t s).1) + bus.due s ≡ length (frames s) + bus.due (outcome bus start made t s).1
  counted-outcome (Read at next) zero start made s short = absurd short
  counted-outcome (Read at next) (suc k) start made s short =
      let passed = law.pass_frames s 1 (omega arith) in
      let read = law.read_frames (bus.pass s 1) at in
      let kept : bus.due (after_read bus at s) ≡ bus.due (bus.pass s 1) = lawful.samples _ ∙ ap (λ (c : ℕ). c / CYCLES_PER_SAMPLE) (lawful.read_clock (bus.pass s 1) at) ∙ sym (lawful.samples _) in
      let rest = counted-outcome (next (byte_read bus at s)) k start (made + 1) (after_read bus at s) (short (byte_read bus at s)) in
      omega arith
  counted-outcome (Write at value next) zero start made s short = absurd short
  counted-outcome (Write at value next) (suc k) start made s short =
      let passed = law.pass_frames s 1 (omega arith) in
      let written = law.write_frames (bus.pass s 1) at value in
      let kept : bus.due (after_write bus at value s) ≡ bus.due (bus.pass s 1) = lawful.samples _ ∙ ap (λ (c : ℕ). c / CYCLES_PER_SAMPLE) (lawful.write_clock (bus.pass s 1) at value) ∙ sym (lawful.samples _) in
      let rest = counted-outcome next k start (made + 1) (after_write bus at value s) short in
      omega arith
  counted-outcome (End cpu (Cycles cycles)) zero start made s short = counted-either s (nat_lt made cycles) (cycles - made) (omega arith)
  counted-outcome (End cpu (Cycles cycles)) (suc k) start made s short = counted-either s (nat_lt made cycles) (cycles - made) (omega arith)
  counted-outcome (End cpu ToSample) k start made s short = counted-either s (nat_lt made (CYCLES_PER_SAMPLE - start % CYCLES_PER_SAMPLE)) (CYCLES_PER_SAMPLE - start % CYCLES_PER_SAMPLE - made) (omega arith)

  counted-step : (w : Whole S) → length (frames (after_step bus w).1) + bus.due w.1 ≡ length (frames w.1) + bus.due (after_step bus w).1
  unfolding after_step
  counted-step w = counted-outcome (script w.0) 6 (bus.clock w.1) 0 w.1 (IsShort-script w.0)

  counted-steps : (samples steps : ℕ) (w : Whole S) → CYCLES_PER_SAMPLE * samples ≤ bus.clock w.1 + steps → bus.due w.1 ≤ samples → length (frames (after_steps bus samples steps w).1) + bus.due w.1 ≡ length (frames w.1) + samples
  counted-steps samples zero w enough few = let due = lawful.samples w.1 in omega arith
  counted-steps samples (suc steps) w enough few =
      let next = after_step bus w in
      let due = lawful.samples w.1 in
      let later = clock-after_step-least bus lawful w in
      let most = clock-after_step-most bus lawful w in
      let next_due = lawful.samples next.1 in
      let step = counted-step w in
      elim (cases_lt (bus.due w.1) samples) [
        | inl more ↦
            let rest = counted-steps samples steps next (omega arith) (omega arith) in
            let same : length (frames (after_steps bus samples (suc steps) w).1) ≡ length (frames (after_steps bus samples steps next).1) =
            ap (λ (b : Bool). length (frames (if b then w else after_steps bus samples steps next).1)) (lt-leb samples (bus.due w.1) more) in
            omega arith
        | inr all ↦
            let same : length (frames (after_steps bus samples (suc steps) w).1) ≡ length (frames w.1) =
            ap (λ (v : Whole S). length (frames v.1)) (after_steps-reached bus lawful samples (suc steps) w all) in
            omega arith
      ]

  -- after the frames that were emitted before a run emits one for each sample that it makes
  pub length-frames-after_run : (samples : ℕ) (w : Whole S) → bus.due w.1 ≤ samples → length (frames (after_run bus samples w).1) + bus.due w.1 ≡ length (frames w.1) + samples
  unfolding after_run
  length-frames-after_run samples w few = counted-steps samples (CYCLES_PER_SAMPLE * samples - bus.clock w.1) w (omega arith) few

  -- so there is a frame to come until all samples are due
  pub some_to_come : (samples : ℕ) (w : Whole S) (due : ℕ) → due ≡ bus.due w.1 → nat_le samples due ≡ false → 0 < length (frames (after_run bus samples w).1)
  some_to_come samples w due is more =
      let below : due < samples = grind (arith, nat_tests) in
      let all = length-frames-after_run samples w (omega arith) in
      omega arith
