use Rattle.std.proofs.Common.{◌*◌, ◌-◌}
use Rattle.tests_renders.proofs.renders.give_all.Given as goal

abbrev pub decreases-pieces : goal.decreases-pieces
decreases-pieces g l = 32 * l.render.samples - l.render.bus.machine.clock
