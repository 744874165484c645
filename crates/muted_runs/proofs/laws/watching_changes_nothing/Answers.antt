use Rattle.muted_runs.proofs.BlindRuns.{run_seen}
use Rattle.muted_runs.proofs.laws.watching_changes_nothing.Goals as goal

pub returns : goal.returns
returns g c = λ hidden samples w. run_seen g.C.Chip.meaning hidden samples w
