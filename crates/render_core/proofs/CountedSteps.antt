-- Between two states of a bus its chip counts on: over a step, over a drain, and over steps that were taken.
use Rattle.std.proofs.Common.{◌≡◌, ℕ, zero, suc, ◌+◌, ◌-◌, ◌≤◌, Bool, true, false, nat_lt, List, refl, sym, ap, subst, ◌∙◌, arith}
use Rattle.std.specs.Prelude.{if◌then◌else◌, ◌%◌}
use Rattle.spc700_exec.specs.declared.cpu.Cpu.{Cpu}
use Rattle.spc700_exec.specs.Bus.{BusMeaning, IsLawful, byte_read, after_read, after_write}
use Rattle.spc700_exec.specs.Script.{Script, Read, Write, End, Cycles, ToSample, outcome}
use Rattle.spc700_exec.specs.Instruction.{script, step_outcome}
use Rattle.spc700_exec.specs.Length.{IsShort}
use Rattle.spc700_exec.specs.Emitting.{IsEmitting}
use Rattle.spc700_exec.proofs.Short.{IsShort-script}
use Rattle.lock_step.specs.Emits.{Emits, IsCountedOn, IsCounting, IsBeside}
use Rattle.lock_step.proofs.ChipCounts.{counts_on_none, counts_on_then, counts_on_same}
use Rattle.lock_step.specs.StepsOfRun.{AreStepsOf}
use Rattle.idle_loops.specs.ReadOnly.{after_n_steps}
use Rattle.render_core.specs.MachineRun.{Whole}
use Rattle.render_core.proofs.ItemsBeforeRun.{due-cleared}
use Rattle.spc700_exec.specs.declared.bus.TheConstants.{CYCLES_PER_SAMPLE}

module _ {S : Type 0} (bus : BusMeaning S) (emits : Emits S) (law : IsCounting bus emits) where
  counted-either : (s : S) (b : Bool) (cycles : ℕ) → cycles ≤ CYCLES_PER_SAMPLE → IsCountedOn bus emits s (if b then bus.pass s cycles else s)
  counted-either s true cycles few = law.pass_counts s cycles few
  counted-either s false cycles few = counts_on_none (bus.due s) (emits.pending s) (emits.total s)

  counted-outcome : (t : Script) (k start made : ℕ) (s : S) → IsShort k t → IsCountedOn bus emits s (outcome bus start made t s).1
  counted-outcome (Read at next) zero start made s short = absurd short
  counted-outcome (Read at next) (suc k) start made s short =
      counts_on_then (law.pass_counts s 1 (omega arith))
      (counts_on_then (law.read_counts (bus.pass s 1) at)
      (counted-outcome (next (byte_read bus at s)) k start (made + 1) (after_read bus at s) (short (byte_read bus at s))))
  counted-outcome (Write at value next) zero start made s short = absurd short
  counted-outcome (Write at value next) (suc k) start made s short =
      counts_on_then (law.pass_counts s 1 (omega arith))
      (counts_on_then (law.write_counts (bus.pass s 1) at value)
      (counted-outcome next k start (made + 1) (after_write bus at value s) short))
  counted-outcome (End cpu (Cycles cycles)) zero start made s short = counted-either s (nat_lt made cycles) (cycles - made) (omega arith)
  counted-outcome (End cpu (Cycles cycles)) (suc k) start made s short = counted-either s (nat_lt made cycles) (cycles - made) (omega arith)
  counted-outcome (End cpu ToSample) k start made s short = counted-either s (nat_lt made (CYCLES_PER_SAMPLE - start % CYCLES_PER_SAMPLE)) (CYCLES_PER_SAMPLE - start % CYCLES_PER_SAMPLE - made) (omega arith)

  pub counted-stepped : (cpu next_cpu : Cpu) (s next : S) → (next_cpu, next) ≡ step_outcome bus cpu s → IsCountedOn bus emits s next
  counted-stepped cpu next_cpu s next does =
      subst (λ (w : Whole S). IsCountedOn bus emits s w.1) (sym does) (counted-outcome (script cpu) 6 (bus.clock s) 0 s (IsShort-script cpu))

  pub counted-drained : IsLawful bus → {I : Type 0} (items : S → List I) → IsEmitting bus emits.cleared items → IsBeside emits → (s t : S) → emits.cleared t ≡ emits.cleared s → IsCountedOn bus emits s t
  counted-drained lawful items emitting beside s t same =
      counts_on_same (due-cleared bus lawful emits.cleared items emitting t s same)
      (sym (beside.pending t) ∙ ap emits.pending same ∙ beside.pending s)
      (sym (beside.total t) ∙ ap emits.total same ∙ beside.total s)

  counted-after_n_steps : (n : ℕ) (w : Whole S) → IsCountedOn bus emits w.1 (after_n_steps bus n w).1
  unfolding after_n_steps
  counted-after_n_steps zero w = counts_on_none (bus.due w.1) (emits.pending w.1) (emits.total w.1)
  counted-after_n_steps (suc n) w =
      let v : Whole S = after_n_steps bus n w in
      counts_on_then (counted-after_n_steps n w) (counted-stepped v.0 (step_outcome bus v.0 v.1).0 v.1 (step_outcome bus v.0 v.1).1 refl)

  -- over steps that were taken
  pub counted-steps : IsLawful bus → {I : Type 0} (items : S → List I) → IsEmitting bus emits.cleared items → IsBeside emits
      → (samples : ℕ) (cpu next : Cpu) (old new : S) → AreStepsOf bus emits samples cpu old next new → IsCountedOn bus emits old new
  counted-steps lawful items emitting beside samples cpu next old new taken =
      counts_on_then (counted-after_n_steps taken.steps (cpu, old))
      (counted-drained lawful items emitting beside (after_n_steps bus taken.steps (cpu, old)).1 new (sym taken.cleared))
