use Rattle.lag_bus.specs.Lagging.{lagging}
use Rattle.lag_bus.proofs.StepsInHand.{stepped_in_hand, same_in_hand, same_run}
use Rattle.lag_bus.proofs.cached_clock_bus.step_once.Goals as goal

pub returns-then-may_fall_behind-clause-does : goal.returns-then-may_fall_behind-clause-does
returns-then-may_fall_behind-clause-does g c = stepped_in_hand (lagging g.B.C.Chip.meaning) c.args.cpu.now c.step_awake.new.cpu c.args.cached.now c.step_awake.new.bus c.step_awake.ensures.does

pub returns-then-may_fall_behind-clause-name : goal.returns-then-may_fall_behind-clause-name
returns-then-may_fall_behind-clause-name g c = same_in_hand (lagging g.B.C.Chip.meaning) c.args.cpu.now c.step_awake.new.cpu c.args.cached.now c.step_awake.new.bus c.step_awake.ensures.does

pub returns-then-may_fall_behind-clause-samples : goal.returns-then-may_fall_behind-clause-samples
returns-then-may_fall_behind-clause-samples g c = same_run (lagging g.B.C.Chip.meaning) c.args.cpu.now c.step_awake.new.cpu c.args.cached.now c.step_awake.new.bus c.step_awake.ensures.does
