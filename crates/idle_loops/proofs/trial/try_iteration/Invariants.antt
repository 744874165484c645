use Rattle.std.proofs.Common.{◌≡◌, ◌≤◌, ◌*◌, Some}
use Rattle.idle_loops.specs.ReadOnly.{peek_of_steps}
use Rattle.idle_loops.proofs.trial.try_iteration.Given as goal
use Rattle.spc700_exec.specs.declared.bus.TheConstants.{CYCLES_PER_SAMPLE}

-- so many steps only read
abbrev pub invariant-steps : goal.invariant-steps
invariant-steps g l = record {
  iteration : peek_of_steps (g.L.ReadOnlyBus.sees l.peeks) l.counter l.cpu ≡ Some (l.now, l.cycles);
  few : l.cycles ≤ CYCLES_PER_SAMPLE * l.counter;
  some : l.counter ≤ l.cycles;
}
