use Rattle.muted_runs.proofs.ShownRuns.{run_quiet}
use Rattle.muted_runs.proofs.laws.what_is_shown_is_not_noted.Goals as goal

pub returns : goal.returns
returns g c = λ samples w. run_quiet g.C.Chip.meaning samples w
