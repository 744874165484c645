use Rattle.std.proofs.Common.{◌≡◌, false, ◌*◌, ◌-◌, ◌≤◌}
use Rattle.spc700_exec.specs.Bus.{max_calls_before_step}
use Rattle.lock_step.specs.StepsOfRun.{AreStepsOf}
use Rattle.lag_bus.specs.Lagging.{lagging}
use Rattle.lag_bus.specs.LagEmits.{lag_emits}
use Rattle.lag_bus.proofs.cached_clock_bus.step_on.Given as goal
use Rattle.spc700_exec.specs.declared.bus.TheConstants.{CYCLES_PER_SAMPLE}

-- the steps so far, on the same bus and for the same run, with room for one more
abbrev pub invariant-steps : goal.invariant-steps
invariant-steps g l = record {
  name : l.cached.name ≡ l.initial.cached.name;
  samples : l.cached.samples ≡ l.initial.cached.samples;
  taken : AreStepsOf (lagging g.B.C.Chip.meaning) (lag_emits g.B.C.Chip.meaning) l.initial.cached.samples l.initial.cpu l.initial.cached.bus l.cpu l.cached.bus;
  calls : l.cached.bus.machine.calls ≤ max_calls_before_step;
  awake : l.cpu.halted ≡ false;
  on : l.initial.cached.bus.machine.clock ≤ l.cached.bus.machine.clock;
}

abbrev pub decreases-steps : goal.decreases-steps
decreases-steps g l = CYCLES_PER_SAMPLE * l.cached.samples - l.cached.bus.machine.clock
