use Rattle.std.proofs.Common.{arith}
use Rattle.ports_timers.proofs.Idle.{after_ticks_of-idle}
use Rattle.ports_timers.proofs.io.Io.tick.Goals as goal

pub returns-then-from_clock-cycles-lt16 : goal.returns-then-from_clock-cycles-lt16
returns-then-from_clock-cycles-lt16 c = after_ticks_of-idle c.args.self.now c.args.from_clock c.args.cycles (omega arith)
