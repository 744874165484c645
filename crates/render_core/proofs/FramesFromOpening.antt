-- From a machine at its opening a run emits as many frames as samples are to be made.
use Rattle.std.proofs.Common.{◌≡◌, ℕ, ◌/◌, [], length, ap, arith}
use Rattle.num_fix.specs.declared.Frame.{Frame}
use Rattle.spc700_exec.specs.declared.cpu.Cpu.{Cpu}
use Rattle.chip_form.specs.ChipMeaning.{ChipMeaning}
use Rattle.lock_step.specs.Machine.{Machine}
use Rattle.lock_step.specs.LockStep.{lock_step}
use Rattle.lock_step.specs.LockStepLaws.{lock_step-lawful, frame_each}
use Rattle.render_core.specs.MachineRun.{after_run}
use Rattle.render_core.proofs.FrameEachSample.{length-frames-after_run}
use Rattle.spc700_exec.specs.declared.bus.TheConstants.{CYCLES_PER_SAMPLE}

pub length-opened : {S : Type 0} (chip : ChipMeaning S) (samples : ℕ) (cpu : Cpu) (m : Machine S) → m.clock ≡ 0 → m.frames ≡ [] → length (after_run (lock_step chip) samples (cpu, m)).1.frames ≡ samples
length-opened chip samples cpu m clock frames =
    let none : length m.frames ≡ 0 = ap (length {A = Frame}) frames in
    let due : m.clock / CYCLES_PER_SAMPLE ≡ 0 = ap (λ (k : ℕ). k / CYCLES_PER_SAMPLE) clock in
    let all = length-frames-after_run (lock_step chip) (lock_step-lawful chip) (λ m. m.frames) (frame_each chip) samples (cpu, m) (omega arith) in
    omega arith
