use Rattle.std.proofs.Common.{◌≡◌, ◌+◌, ◌-◌, ℕ, sym, ap, ◌∙◌, arith}
use Rattle.ports_timers.specs.Timer.{after_ticks}
use Rattle.ports_timers.proofs.Ticks.{after_ticks-add}
use Rattle.ports_timers.proofs.timer.after_ticks.Goals as goal

pub counts-preserved : goal.counts-preserved
counts-preserved c =
    let next = c.counts.next in
    let rest = c.counts.left - next in
    let timer = c.counts.timer in
    let whole : c.counts.left ≡ rest + next = omega (arith, c.counts-test.true) in
    let count : after_ticks next timer ≡ c.after_count-timer.result = ap (λ (k : ℕ). after_ticks k timer) c.counts.invariant.1 ∙ sym c.after_count-timer.ensures in (
      c.counts.invariant.0 ∙ ap (λ (k : ℕ). after_ticks k timer) whole ∙ after_ticks-add next rest timer ∙ ap (after_ticks rest) count,
      c.ticks_to_count-next-in-counts.ensures.exact,
      c.ticks_to_count-next-in-counts.ensures.bytes,
    )
