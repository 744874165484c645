use Rattle.std.proofs.Common.{refl}
use Rattle.chip_form.proofs.OneMoreSample.{samples_none}
use Rattle.lag_bus.proofs.ChangesOfHeld.{held_new}
use Rattle.lag_bus.proofs.MergedRecords.{merge_nothing}
use Rattle.lag_bus.proofs.deferred_chip.DeferredChip.new.Goals as goal

pub invariant_of-result : goal.invariant_of-result
invariant_of-result g c = (
  held_new g.C.Chip.meaning _ c.requires.is_valid c.requires.chip refl c.requires.frames c.requires.records c.requires.ring,
  c.none-known.ensures _,
)

pub returns : goal.returns
returns g c = rw (c.requires.chip, c.requires.frames, c.requires.records, c.requires.ring) (simp (samples_none, merge_nothing) refl)
