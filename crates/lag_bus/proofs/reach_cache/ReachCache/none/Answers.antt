use Rattle.std.proofs.Common.{refl}
use Rattle.lag_bus.proofs.PageMarks.{are_marks}
use Rattle.lag_bus.proofs.reach_cache.ReachCache.none.Goals as goal

pub returns : goal.returns
returns g c = λ memory. record {
  kept = record { unwritten = are_marks _; none = λ _. (refl, are_marks _) };
  window = c.written_window-window.ensures;
  reads = record { entangled = tt; unread = are_marks _ };
}
