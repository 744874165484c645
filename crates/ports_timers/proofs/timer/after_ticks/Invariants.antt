use Rattle.std.proofs.Common.{◌≡◌}
use Rattle.ports_timers.specs.Timer.{after_ticks}
use Rattle.ports_timers.specs.Zeros.{ticks_to_count, IsTimer}
use Rattle.ports_timers.proofs.timer.after_ticks.Given as goal

abbrev pub invariant-counts : goal.invariant-counts
invariant-counts l = (after_ticks l.fn.count l.fn.start ≡ after_ticks l.left l.timer) × (l.next ≡ ticks_to_count l.timer) × IsTimer l.timer

abbrev pub decreases-counts : goal.decreases-counts
decreases-counts l = l.left
