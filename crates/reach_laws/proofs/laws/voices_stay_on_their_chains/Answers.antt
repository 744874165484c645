use Rattle.std.proofs.Common.{arith}
use Rattle.echo_unit.specs.Cells.{cell_after}
use Rattle.dsp_state.specs.Registers.{echo_regs}
use Rattle.reach_laws.proofs.ByBytes.{stays_by_bytes}
use Rattle.reach_laws.proofs.Within.{stays_in_samples}
use Rattle.reach_laws.proofs.laws.voices_stay_on_their_chains.Goals as goal

pub returns-clause-pages : goal.returns-clause-pages
returns-clause-pages c = λ j k s memory few valid clear. (stays_in_samples j k s memory few valid).voices clear

pub returns-clause-bytes : goal.returns-clause-bytes
returns-clause-bytes c = λ n j k s memory some few valid miss.
    (stays_by_bytes (cell_after s.hidden.echo (echo_regs s.registers)) s memory n (λ i below. omega arith) miss j k some few valid).voices
