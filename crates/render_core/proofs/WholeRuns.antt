-- What holds of every whole machine that is saved, loaded and run.
use Rattle.std.proofs.Common.{◌≡◌, inl, inr, ℕ, zero, suc, ◌+◌, ◌-◌, ◌*◌, ◌/◌, ◌≤◌, Bool, true, false, nat_le, nat_lt, ◌++◌, refl, sym, ◌∙◌, ap, arith}
use Rattle.std.proofs.lemmas.Bool.{lt-leb, cases_lt}
use Rattle.std.specs.Prelude.{if◌then◌else◌}
use Rattle.std.proofs.lemmas.List.{append-nil}
use Rattle.spc700_exec.specs.Bus.{BusMeaning, IsLawful, byte_read, after_read, after_write}
use Rattle.spc700_exec.specs.Script.{Script, Read, Write, End, cycles_at, outcome}
use Rattle.spc700_exec.specs.Instruction.{script}
use Rattle.chip_form.specs.ChipMeaning.{ChipMeaning}
use Rattle.chip_form.specs.ChipSaving.{ChipSaving}
use Rattle.chip_form.specs.SavingLaws.{IsLawfulSaving}
use Rattle.lock_step.specs.Machine.{Machine}
use Rattle.lock_step.specs.LockStep.{lock_step, after_sample, crosses_sample, writes_register}
use Rattle.lock_step.specs.LockStepEmits.{drained_machine}
use Rattle.lock_step.specs.LockStepLaws.{lock_step-lawful, emits_frames, frame_each}
use Rattle.render_core.specs.MachineRun.{Whole, after_step, after_steps, after_run}
use Rattle.render_core.specs.Whole.{with_lists_of, whole_after_run, frames_of_run, IsPlayedLawfully}
use Rattle.render_core.proofs.RunBySteps.{after_steps-reached, after_run-next, after_run-reached, due-after_run}
use Rattle.render_core.proofs.ItemsBeforeRun.{items-after_run-drained, end-after_run-drained}
use Rattle.render_core.proofs.FrameEachSample.{length-frames-after_run}
use Rattle.spc700_exec.specs.declared.bus.TheConstants.{CYCLES_PER_SAMPLE}

-- a run goes on where another one ended
module _ {S : Type 0} (bus : BusMeaning S) (lawful : IsLawful bus) (k n : ℕ) (less : k ≤ n) where
  after_run-after_steps : (steps : ℕ) (w : Whole S) → after_run bus n (after_steps bus k steps w) ≡ after_run bus n w
  after_run-after_steps zero w = refl
  after_run-after_steps (suc steps) w = elim (cases_lt (bus.due w.1) k) [
    | inl more ↦
        ap (λ (b : Bool). after_run bus n (if b then w else after_steps bus k steps (after_step bus w))) (lt-leb k (bus.due w.1) more)
        ∙ after_run-after_steps steps (after_step bus w)
        ∙ sym (after_run-next bus lawful n w (omega arith))
    | inr all ↦ ap (λ (v : Whole S). after_run bus n v) (after_steps-reached bus lawful k (suc steps) w all)
  ]

  pub after_run-after_run : (w : Whole S) → after_run bus n (after_run bus k w) ≡ after_run bus n w
  unfolding after_run
  after_run-after_run w = after_run-after_steps (CYCLES_PER_SAMPLE * k - bus.clock w.1) w

-- what no run changes
module _ {S V : Type 0} {chip : ChipMeaning S} {saving : ChipSaving S V} (laws : IsLawfulSaving chip saving) (v : V) where
  -- the mask, and the fixed part of the chip
  pub record IsKept (old new : Machine S) : Type 0 where
    pub mask : new.mask ≡ old.mask
    pub fixed : saving.loaded new.chip v ≡ saving.loaded old.chip v

  kept_none : (m : Machine S) → IsKept m m
  kept_none m = record { mask = refl; fixed = refl }

  kept_then : {l m n : Machine S} → IsKept l m → IsKept m n → IsKept l n
  kept_then first second = record { mask = second.mask ∙ first.mask; fixed = second.fixed ∙ first.fixed }

  written : (m : Machine S) (address byte : ℕ) (b : Bool) → saving.loaded (if b then chip.register_write m.chip address byte else m.chip) v ≡ saving.loaded m.chip v
  written m address byte true = laws.write_keeps_fixed m.chip address byte v
  written m address byte false = refl

  kept-write : (m : Machine S) (at value : ℕ) → IsKept m ((lock_step chip).write m at value)
  kept-write m at value = record { mask = refl; fixed = written m m.io.dsp_address value (writes_register m.io.dsp_address at) }

  sampled_mask : (m : Machine S) (b : Bool) → (if b then after_sample chip m else m).mask ≡ m.mask
  sampled_mask m true = refl
  sampled_mask m false = refl

  sampled_chip : (m : Machine S) (b : Bool) → saving.loaded (if b then after_sample chip m else m).chip v ≡ saving.loaded m.chip v
  sampled_chip m true = laws.sample_keeps_fixed (m.clock / CYCLES_PER_SAMPLE) m.chip m.memory v
  sampled_chip m false = refl

  kept-pass : (m : Machine S) (cycles : ℕ) → IsKept m ((lock_step chip).pass m cycles)
  kept-pass m cycles = record { mask = sampled_mask m (crosses_sample m.clock cycles); fixed = sampled_chip m (crosses_sample m.clock cycles) }

  kept-rest : (b : Bool) (cycles : ℕ) (m : Machine S) → IsKept m (if b then (lock_step chip).pass m cycles else m)
  kept-rest true cycles m = kept-pass m cycles
  kept-rest false cycles m = kept_none m

  kept-outcome : (it : Script) (start made : ℕ) (m : Machine S) → IsKept m (outcome (lock_step chip) start made it m).1
  kept-outcome (Read at next) start made m =
      kept_then (kept-pass m 1) (kept_then (record { mask = refl; fixed = refl }) (kept-outcome (next (byte_read (lock_step chip) at m)) start (made + 1) (after_read (lock_step chip) at m)))
  kept-outcome (Write at value next) start made m =
      kept_then (kept-pass m 1) (kept_then (kept-write ((lock_step chip).pass m 1) at value) (kept-outcome next start (made + 1) (after_write (lock_step chip) at value m)))
  kept-outcome (End cpu time) start made m = kept-rest (nat_lt made (cycles_at start time)) (cycles_at start time - made) m

  kept-after_step : (w : Whole (Machine S)) → IsKept w.1 (after_step (lock_step chip) w).1
  unfolding after_step
  kept-after_step w = kept-outcome (script w.0) w.1.clock 0 w.1

  kept-if : (b : Bool) (m : Machine S) (w x : Whole (Machine S)) → IsKept m w.1 → IsKept m x.1 → IsKept m (if b then w else x).1
  kept-if true m w x first second = first
  kept-if false m w x first second = second

  kept-after_steps : (n steps : ℕ) (w : Whole (Machine S)) → IsKept w.1 (after_steps (lock_step chip) n steps w).1
  kept-after_steps n zero w = kept_none w.1
  kept-after_steps n (suc steps) w =
      kept-if (nat_le n (w.1.clock / CYCLES_PER_SAMPLE)) w.1 w (after_steps (lock_step chip) n steps (after_step (lock_step chip) w)) (kept_none w.1)
      (kept_then (kept-after_step w) (kept-after_steps n steps (after_step (lock_step chip) w)))

  pub kept-after_run : (n : ℕ) (w : Whole (Machine S)) → IsKept w.1 (after_run (lock_step chip) n w).1
  unfolding after_run
  kept-after_run n w = kept-after_steps n (CYCLES_PER_SAMPLE * n - w.1.clock) w

module _ {S V : Type 0} (chip : ChipMeaning S) (saving : ChipSaving S V) (laws : IsLawfulSaving chip saving) where
  -- a machine and the same without what it emitted run to the same end
  abbrev drained_whole : Whole (Machine S) → Whole (Machine S)
  drained_whole w = (w.0, drained_machine w.1)

  drained-after_run : (n : ℕ) (w : Whole (Machine S)) → drained_whole (after_run (lock_step chip) n w) ≡ drained_whole (after_run (lock_step chip) n (drained_whole w))
  drained-after_run n w =
      end-after_run-drained (lock_step chip) (lock_step-lawful chip) drained_machine (λ m. m.frames) (emits_frames chip) n drained_machine (λ m. refl) w.0 w.1 (drained_machine w.1) w.1.frames (sym (append-nil w.1.frames)) refl

  goes_on : (k n : ℕ) (w : Whole (Machine S)) → k ≤ n → whole_after_run chip n (whole_after_run chip k w) ≡ whole_after_run chip n w
  goes_on k n w less =
      let v = after_run (lock_step chip) k w in
      ap (λ (x : Whole (Machine S)). with_lists_of w.1 x)
      (drained-after_run n (whole_after_run chip k w)
      ∙ sym (drained-after_run n v)
      ∙ ap drained_whole (after_run-after_run (lock_step chip) (lock_step-lawful chip) k n less w))

  frames-after : (k n : ℕ) (w : Whole (Machine S)) → k ≤ n → frames_of_run chip n w ≡ frames_of_run chip k w ++ frames_of_run chip n (whole_after_run chip k w)
  frames-after k n w less =
      let bus = lock_step chip in
      let t = after_run bus k (drained_whole w) in
      let from_end : (after_run bus n t).1.frames ≡ t.1.frames ++ (after_run bus n (drained_whole t)).1.frames =
      items-after_run-drained bus (lock_step-lawful chip) drained_machine (λ m. m.frames) (emits_frames chip) n t.0 t.1 (drained_machine t.1) t.1.frames (sym (append-nil t.1.frames)) refl in
      ap (λ (x : Whole (Machine S)). x.1.frames) (sym (after_run-after_run bus (lock_step-lawful chip) k n less (drained_whole w)))
      ∙ from_end
      ∙ ap (λ (x : Whole (Machine S)). t.1.frames ++ (after_run bus n x).1.frames) (sym (drained-after_run k w))

  pub is_played_lawfully : IsPlayedLawfully chip saving
  is_played_lawfully = record {
    loads_back = λ w. ap (λ (s : S). (w.0, record w.1 { chip = s })) (laws.loads_back w.1.chip (w.1.clock / CYCLES_PER_SAMPLE));
    loads_over = λ w s t memory other. ap (λ (c : S). (t.cpu, record w.1 { memory = other; io = t.bus.io; chip = c; clock = t.bus.clock })) (laws.loads_over w.1.chip s.bus.chip t.bus.chip);
    loads_after = λ n w s memory.
        let kept = kept-after_run laws s.bus.chip n w in
        λ i. (s.cpu, record w.1 { memory = memory; io = s.bus.io; chip = kept.fixed i; clock = s.bus.clock; mask = kept.mask i });
    stays = λ w. ap (λ (x : Whole (Machine S)). with_lists_of w.1 x) (after_run-reached (lock_step chip) (lock_step-lawful chip) (w.1.clock / CYCLES_PER_SAMPLE) w (omega arith));
    makes = λ n w few. due-after_run (lock_step chip) (lock_step-lawful chip) n w few;
    goes_on = goes_on;
    counts = λ n w few.
        let all = length-frames-after_run (lock_step chip) (lock_step-lawful chip) (λ m. m.frames) (frame_each chip) n (w.0, drained_machine w.1) few in
        omega arith;
    emits = frames-after;
  }
