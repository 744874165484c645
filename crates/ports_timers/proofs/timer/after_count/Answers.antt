use Rattle.ports_timers.proofs.Ticks.{after_ticks-count}
use Rattle.ports_timers.proofs.timer.after_count.Goals as goal

pub returns : goal.returns
returns c = after_ticks-count c.args.timer c.requires.target c.requires.inner
