use Rattle.spcwave.proofs.WholeRun.{is_run}
use Rattle.spcwave.proofs.run.run.Goals as goal

pub returns : goal.returns
returns g c = is_run _ _ _ _ _ _ c.status_for.ensures c.attempt-refusal.ensures.attempts c.complain.ensures.complained c.attempt-refusal.ensures.misread
