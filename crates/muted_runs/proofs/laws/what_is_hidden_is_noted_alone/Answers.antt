use Rattle.std.proofs.Common.{refl}
use Rattle.spc700_table.specs.Cycles.{cycle_map, printed_cycles}
use Rattle.spc700_table.specs.Opcodes.{columns, row_of}
use Rattle.spc700_exec.specs.Operands.{both_addressed}
use Rattle.render_core.specs.MachineRun.{after_step, after_run}
use Rattle.muted_runs.proofs.laws.what_is_hidden_is_noted_alone.Goals as goal

pub returns : goal.returns
unfolding after_step after_run row_of columns printed_cycles cycle_map both_addressed
returns g c = record { hidden = λ state. refl; shown = λ state. refl; port = λ state. refl }
