use Rattle.run_laws.proofs.Runs.{refused_leaves_nothing}
use Rattle.run_laws.proofs.OfRuns.{of_run}
use Rattle.run_laws.proofs.laws.a_run_without_memory_leaves_nothing.Goals as goal

pub returns : goal.returns
returns c = λ command old new status run same. refused_leaves_nothing _ _ _ _ _ _ _ (of_run command old new status run) (λ ok. absurd (cc)) (λ write. absurd (cc))
