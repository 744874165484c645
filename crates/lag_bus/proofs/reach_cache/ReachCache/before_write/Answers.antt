use Rattle.lag_bus.proofs.PageMarks.{reads_of_any}
use Rattle.lag_bus.proofs.reach_cache.ReachCache.before_write.Goals as goal

pub returns-then-not-self : goal.returns-then-not-self
returns-then-not-self g c = record {
  known = c.requires;
  any = λ may other. record { kept = c.requires.kept; window = c.requires.window; reads = reads_of_any _ c.args.self.now c.if-not-self.true c.requires.kept.none };
}

pub returns-then-may_be_read : goal.returns-then-may_be_read
returns-then-may_be_read g c =
    let before = c.may_be_read.ensures.known in
    let kept = c.drop_reads.ensures.kept _ before.kept in
    record {
      known = record { kept = kept; window = rw c.drop_reads.ensures.window before.window; reads = c.drop_reads.ensures.reads _ before.kept _ };
      any = λ may other. record { kept = kept; window = rw c.drop_reads.ensures.window before.window; reads = c.drop_reads.ensures.reads _ before.kept _ };
    }
