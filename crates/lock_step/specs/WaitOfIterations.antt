-- Of any bus that emits: what a call leaves that made whole iterations at once.
use Rattle.std.specs.Prelude.{◌≡◌, ◌<◌, ℕ}
use Rattle.spc700_exec.specs.declared.cpu.Cpu.{Cpu}
use Rattle.spc700_exec.specs.Bus.{BusMeaning}
use Rattle.lock_step.specs.Emits.{Emits, IsCountedOn}
use Rattle.idle_loops.specs.ReadOnly.{after_n_steps}

-- Some steps of the processor bring its registers back, and the bus to this one, but for the number of its calls. It isn't at
-- the end of a run to so many samples.
pub record IsWaitOf {S : Type 0} (bus : BusMeaning S) (emits : Emits S) (samples : ℕ) (cpu : Cpu) (old new : S) : Type 0 where
  pub steps : ℕ
  pub registers : (after_n_steps bus steps (cpu, old)).0 ≡ cpu
  pub cleared : emits.cleared (after_n_steps bus steps (cpu, old)).1 ≡ emits.cleared new
  pub frames : emits.frames (after_n_steps bus steps (cpu, old)).1 ≡ emits.frames new
  pub records : emits.records (after_n_steps bus steps (cpu, old)).1 ≡ emits.records new
  pub counts : IsCountedOn bus emits old new
  pub calls : bus.calls new ≡ bus.calls old
  pub below : bus.due new < samples
