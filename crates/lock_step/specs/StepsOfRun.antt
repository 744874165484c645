-- Of any bus that emits: what a call leaves that took some steps of the processor.
use Rattle.std.specs.Prelude.{◌≡◌, ◌<◌, ℕ}
use Rattle.spc700_exec.specs.declared.cpu.Cpu.{Cpu}
use Rattle.spc700_exec.specs.Bus.{BusMeaning}
use Rattle.lock_step.specs.Emits.{Emits}
use Rattle.idle_loops.specs.ReadOnly.{after_n_steps}

-- Some steps, of which none begins at the end of a run to so many samples, bring the registers to these, and the bus to this
-- one, but for the number of its calls.
pub record AreStepsOf {S : Type 0} (bus : BusMeaning S) (emits : Emits S) (samples : ℕ) (cpu : Cpu) (old : S) (next : Cpu) (new : S) : Type 0 where
  pub steps : ℕ
  pub begun : (k : ℕ) → k < steps → bus.due (after_n_steps bus k (cpu, old)).1 < samples
  pub registers : (after_n_steps bus steps (cpu, old)).0 ≡ next
  pub cleared : emits.cleared (after_n_steps bus steps (cpu, old)).1 ≡ emits.cleared new
  pub frames : emits.frames (after_n_steps bus steps (cpu, old)).1 ≡ emits.frames new
  pub records : emits.records (after_n_steps bus steps (cpu, old)).1 ≡ emits.records new
