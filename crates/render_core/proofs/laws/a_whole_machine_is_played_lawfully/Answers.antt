use Rattle.render_core.proofs.WholeRuns.{is_played_lawfully}
use Rattle.render_core.proofs.laws.a_whole_machine_is_played_lawfully.Goals as goal

pub returns : goal.returns
returns g c = is_played_lawfully g.C.Chip.meaning g.C.Chip.saving g.met.C.Chip.saves_lawfully
