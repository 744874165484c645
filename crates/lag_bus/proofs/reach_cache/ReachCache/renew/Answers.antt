use Rattle.std.proofs.Common.{◌≡◌, sym, ◌∙◌}
use Rattle.lag_bus.proofs.PageMarks.{same_window}
use Rattle.lag_bus.proofs.reach_cache.ReachCache.renew.Goals as goal

pub returns-then-eq : goal.returns-then-eq
returns-then-eq g c = λ memory.
    let same : c.written_window-window.result ≡ c.args.self.now.window = same_window _ _ (sym c.eq.ensures ∙ c.if-eq.true) in
    record {
      kept = c.drop_reads.ensures.kept _ c.requires;
      window = rw (c.drop_reads.ensures.window, ← same) c.written_window-window.ensures;
      reads = c.drop_reads.ensures.reads _ c.requires _;
    }
