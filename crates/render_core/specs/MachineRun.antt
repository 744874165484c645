-- A run: the whole machine takes steps until so many samples are due.
use Rattle.std.specs.Prelude.{ℕ, zero, suc, ◌-◌, ◌*◌, nat_le, if◌then◌else◌}
use Rattle.spc700_exec.specs.declared.cpu.Cpu.{Cpu}
use Rattle.spc700_exec.specs.Bus.{BusMeaning}
use Rattle.spc700_exec.specs.Instruction.{step_outcome}
use Rattle.spc700_exec.specs.declared.bus.TheConstants.{CYCLES_PER_SAMPLE}

-- the whole machine: the processor, and the bus with all that is beneath it
abbrev pub Whole : Type 0 → Type 0
Whole S = Cpu × S

-- the machine after one step
unfoldable pub after_step : {S : Type 0} → BusMeaning S → Whole S → Whole S
after_step bus w = step_outcome bus w.0 w.1

-- the machine after steps until so many samples are due, and no more steps than given
abbrev pub after_steps : {S : Type 0} → BusMeaning S → (samples steps : ℕ) → Whole S → Whole S
after_steps bus samples zero w = w
after_steps bus samples (suc steps) w =
    if nat_le samples (bus.due w.1) then w else after_steps bus samples steps (after_step bus w)

-- the machine after the run. A step passes a cycle at least, so as many steps as there are cycles left are enough
unfoldable pub after_run : {S : Type 0} → BusMeaning S → (samples : ℕ) → Whole S → Whole S
after_run bus samples w = after_steps bus samples (CYCLES_PER_SAMPLE * samples - bus.clock w.1) w
