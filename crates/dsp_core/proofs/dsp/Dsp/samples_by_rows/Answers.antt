use Rattle.std.proofs.Common.{arith}
use Rattle.batch_rows.proofs.InReach.{reach_keeps_apart}
use Rattle.dsp_core.proofs.dsp.Dsp.samples_by_rows.Goals as goal

pub returns-then-n-lt-MIN_ROWS-clause-same : goal.returns-then-n-lt-MIN_ROWS-clause-same
returns-then-n-lt-MIN_ROWS-clause-same c = λ j below. absurd (omega arith)

pub returns-then-surely-clause-same : goal.returns-then-surely-clause-same
returns-then-surely-clause-same c =
    rw (← c.self.view_is)
    (reach_keeps_apart c.args.n c.self.inside.number c.self.inside.state c.args.memory.now c.requires c.self.invariant.valid (c.is_echo_surely_apart-surely.ensures c.if-surely.true))

pub returns-then-apart-lt-MIN_ROWS-clause-same : goal.returns-then-apart-lt-MIN_ROWS-clause-same
returns-then-apart-lt-MIN_ROWS-clause-same c = λ j below. absurd (omega arith)

pub returns-clause-same : goal.returns-clause-same
returns-clause-same c = rw (← c.self.view_is) (c.samples_apart-apart.ensures.same c.self.inside.number c.self.invariant.valid)
