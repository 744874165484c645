use Rattle.std.proofs.Common.{rules, ◌≡◌, ◌+◌, ◌-◌, ◌<◌, None, sym, ap, ◌∙◌, arith}
use Rattle.rate_clock.specs.Counter.{counter_at}
use Rattle.envelope.specs.Envelope.{step_target}
use Rattle.envelope.proofs.Still.{envelope_step-released, level_released}
use Rattle.envelope.proofs.Envelope.samples_until_change.Goals as goal

pub returns-in-None-clause-unchanged : goal.returns-in-None-clause-unchanged
returns-in-None-clause-unchanged c k now j below =
    let none : step_target c.args.self.now.mode c.args.self.now.level c.args.self.now.hidden c.args.adsr1 c.args.adsr2 c.args.gain ≡ None = search rules in
    let zero : c.args.self.now.level ≡ 0 = search rules in
    envelope_step-released c.args.self.now c.args.adsr1 c.args.adsr2 c.args.gain (counter_at (k + j)) none zero

pub returns-in-None-2-clause-then_changes : goal.returns-in-None-2-clause-then_changes
returns-in-None-2-clause-then_changes c k now few same =
    let none : step_target c.args.self.now.mode c.args.self.now.level c.args.self.now.hidden c.args.adsr1 c.args.adsr2 c.args.gain ≡ None = search rules in
    let some : 0 < c.args.self.now.level = search rules in
    let kept : c.args.self.now.level - 8 ≡ c.args.self.now.level =
    sym (level_released c.args.self.now c.args.adsr1 c.args.adsr2 c.args.gain (counter_at (k + 0)) none) ∙ ap (λ e. e.level) same in
    absurd (omega (arith, some, kept))
