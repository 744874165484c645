use Rattle.std.proofs.Common.{sym}
use Rattle.ports_timers.proofs.Ticks.{after_ticks-below}
use Rattle.ports_timers.proofs.timer.before_count.Goals as goal

pub returns : goal.returns
returns c = sym (after_ticks-below c.args.count c.args.timer c.requires.bytes.target c.requires.bytes.inner c.requires.few)
