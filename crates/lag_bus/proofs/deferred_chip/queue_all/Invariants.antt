use Rattle.std.proofs.Common.{◌≡◌}
use Rattle.lag_bus.specs.Deferred.{deferred_with_samples}
use Rattle.lag_bus.proofs.deferred_chip.queue_all.Given as goal

abbrev pub invariant-samples : goal.invariant-samples
invariant-samples g l = l.deferred ≡ deferred_with_samples g.C.Chip.meaning l.fn.deferred l.counter
