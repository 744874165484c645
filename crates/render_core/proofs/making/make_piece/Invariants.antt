use Rattle.std.proofs.Common.{◌+◌, ◌*◌, ◌-◌, ◌<◌, ◌≤◌, length}
use Rattle.render_core.specs.BetweenSteps.{IsBetweenSteps, HandsOver}
use Rattle.render_core.proofs.making.make_piece.Given as goal
use Rattle.spc700_exec.specs.declared.bus.TheConstants.{CYCLES_PER_SAMPLE}

-- what was to come is the piece so far and what is to come
abbrev pub invariant-steps : goal.invariant-steps
invariant-steps g l = record {
  hands_over : HandsOver g.B.Bus.means g.B.DrainedBus.emits l.samples (l.fn.cpu, l.fn.bus) (l.cpu, l.bus) l.lists.frames l.lists.records;
  between_steps : IsBetweenSteps g.B.Bus.means g.B.DrainedBus.emits l.samples l.bus;
  later : 0 < length l.lists.frames + length l.lists.records → g.B.Bus.means.clock l.fn.bus < g.B.Bus.means.clock l.bus;
  on : g.B.Bus.means.clock l.fn.bus ≤ g.B.Bus.means.clock l.bus;
}

abbrev pub decreases-steps : goal.decreases-steps
decreases-steps g l = CYCLES_PER_SAMPLE * l.samples - g.B.Bus.means.clock l.bus
