use Rattle.std.proofs.Common.{refl}
use Rattle.lag_bus.proofs.PageMarks.{are_marks}
use Rattle.lag_bus.proofs.reach_cache.ReachCache.drop_reads.Goals as goal

pub returns-then-self-clause-kept : goal.returns-then-self-clause-kept
returns-then-self-clause-kept c = λ pages kept. record { unwritten = kept.unwritten; none = λ _. (refl, are_marks _) }

pub returns-then-self-clause-reads : goal.returns-then-self-clause-reads
returns-then-self-clause-reads c = λ pages kept reach. record { entangled = tt; unread = are_marks _ }
