use Rattle.std.proofs.Common.{sym, ap, ◌∙◌}
use Rattle.lag_bus.specs.Deferred.{Deferred}
use Rattle.lag_bus.proofs.PendingSamples.{deferred_with_samples-none, deferred_with_samples-more}
use Rattle.lag_bus.specs.Deferred.{deferred_with_sample}
use Rattle.lag_bus.proofs.deferred_chip.queue_all.Goals as goal

pub samples-init : goal.samples-init
samples-init g c = sym (deferred_with_samples-none g.C.Chip.meaning c.args.deferred.now)

pub samples-preserved : goal.samples-preserved
samples-preserved g c =
    c.queue.ensures ∙ ap (λ (deferred : Deferred g.row.C-State.Denot). deferred_with_sample g.C.Chip.meaning deferred) c.samples.invariant ∙ deferred_with_samples-more g.C.Chip.meaning c.args.deferred.now c.samples.counter
