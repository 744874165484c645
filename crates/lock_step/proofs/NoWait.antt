-- A bus that made no iteration at once.
use Rattle.std.proofs.Common.{◌<◌, ℕ, refl, ap}
use Rattle.spc700_exec.specs.declared.cpu.Cpu.{Cpu}
use Rattle.spc700_exec.specs.Bus.{BusMeaning}
use Rattle.lock_step.specs.Emits.{Emits}
use Rattle.lock_step.specs.WaitOfIterations.{IsWaitOf}
use Rattle.lock_step.proofs.ChipCounts.{counts_on_none}
use Rattle.lock_step.proofs.StepsTaken.{after_no_steps}

-- a bus that didn't wait
pub no_wait : {X : Type 0} (bus : BusMeaning X) (emits : Emits X) (samples : ℕ) (cpu : Cpu) (s : X) → bus.due s < samples → IsWaitOf bus emits samples cpu s s
no_wait {X} bus emits samples cpu s more =
    let none = after_no_steps bus (cpu, s) in
    record {
      steps = 0;
      registers = ap (λ (w : Cpu × X). w.0) none;
      cleared = ap (λ (w : Cpu × X). emits.cleared w.1) none;
      frames = ap (λ (w : Cpu × X). emits.frames w.1) none;
      records = ap (λ (w : Cpu × X). emits.records w.1) none;
      counts = counts_on_none (bus.due s) (emits.pending s) (emits.total s);
      calls = refl;
      below = more;
    }
