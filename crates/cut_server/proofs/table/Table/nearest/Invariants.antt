use Rattle.std.proofs.Common.{◌≡◌, ◌<◌, length, take}
use Rattle.std.specs.Prelude.{slice_index}
use Rattle.cut_form.specs.Checkpoints.{greatest_up_to}
use Rattle.cut_server.specs.Table.{samples_of}
use Rattle.cut_server.proofs.table.Table.nearest.Given as goal

abbrev pub invariant-loop-index : goal.invariant-loop-index
invariant-loop-index g l = (l.nearest < length (samples_of l.self)) × (slice_index (samples_of l.self) l.nearest ≡ greatest_up_to (take l.index (samples_of l.self)) l.at)
