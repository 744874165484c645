use Rattle.std.proofs.Common.{◌≡◌, ◌+◌, ◌∙◌, rules, arith, Some}
use Rattle.idle_loops.proofs.Trials.{peek_of_steps-none, peek_of_steps-more}
use Rattle.idle_loops.proofs.trial.try_iteration.Goals as goal

pub steps-init : goal.steps-init
steps-init g c = record { iteration = peek_of_steps-none _ _; few = omega arith; some = omega arith }

pub returns-then-eq-clause-iteration : goal.returns-then-eq-clause-iteration
returns-then-eq-clause-iteration g c =
    let same : c.try_step.new.cpu ≡ c.args.cpu.now = search rules in (
      c.steps.counter + 1,
      rw c.from-cycles.ensures (peek_of_steps-more (g.L.ReadOnlyBus.sees c.args.peeks.now) c.steps.counter c.args.cpu.now c.steps.now c.try_step.new.cpu c.steps.cycles c.in-Some.more c.steps.invariant.iteration c.in-Some.ensures.step
          ∙ (λ i. Some (same i, c.steps.cycles + c.in-Some.more))),
    )

pub steps-preserved : goal.steps-preserved
steps-preserved g c = record {
  iteration = rw c.from-cycles.ensures (peek_of_steps-more (g.L.ReadOnlyBus.sees c.args.peeks.now) c.steps.counter c.args.cpu.now c.steps.now c.try_step.new.cpu c.steps.cycles c.in-Some.more c.steps.invariant.iteration c.in-Some.ensures.step);
  few = omega (arith, c.from-cycles.ensures, c.in-Some.ensures.few, c.steps.invariant.few);
  some = omega (arith, c.from-cycles.ensures, c.in-Some.ensures.few, c.steps.invariant.some);
}
