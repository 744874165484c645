use Rattle.std.proofs.Common.{◌+◌, ◌≤◌, sym, ap, ◌∙◌, subst, arith}
use Rattle.spc700_exec.proofs.Bounds.{calls-step_outcome, clock-step_outcome-least, clock-step_outcome-most}
use Rattle.spc700_exec.proofs.Halted.{halted-step_outcome}
use Rattle.spc700_exec.proofs.stepping.step_awake.Goals as goal
use Rattle.spc700_exec.specs.declared.bus.TheConstants.{CYCLES_PER_SAMPLE}

pub returns-clause-answer : goal.returns-clause-answer
returns-clause-answer g c =
    c.advance_awake.ensures.answer
    ∙ sym (halted-step_outcome g.B.Bus.means c.args.cpu.now c.args.bus.now c.requires.awake c.advance_awake.ensures.byte)
    ∙ ap (λ p. p.0.halted) (sym c.advance_awake.ensures.does)

pub returns-clause-calls : goal.returns-clause-calls
returns-clause-calls g c =
    let bus = g.B.Bus.means in
    let few = calls-step_outcome bus g.met.B.Bus.lawful c.args.cpu.now c.args.bus.now in
    subst (λ s. bus.calls s ≤ bus.calls c.args.bus.now + 13) (sym (ap (λ p. p.1) c.advance_awake.ensures.does)) few

pub returns-clause-some : goal.returns-clause-some
returns-clause-some g c =
    let bus = g.B.Bus.means in
    let least = clock-step_outcome-least bus g.met.B.Bus.lawful c.args.cpu.now c.args.bus.now in
    subst (λ s. bus.clock c.args.bus.now + 1 ≤ bus.clock s) (sym (ap (λ p. p.1) c.advance_awake.ensures.does)) least

pub returns-clause-short : goal.returns-clause-short
returns-clause-short g c =
    let bus = g.B.Bus.means in
    let most = clock-step_outcome-most bus g.met.B.Bus.lawful c.args.cpu.now c.args.bus.now in
    subst (λ s. bus.clock s ≤ bus.clock c.args.bus.now + CYCLES_PER_SAMPLE) (sym (ap (λ p. p.1) c.advance_awake.ensures.does)) most

pub returns-clause-sample : goal.returns-clause-sample
returns-clause-sample g c =
    let law = g.met.B.Bus.lawful in
    omega (arith, returns-clause-short g c, law.samples c.args.bus.now, law.samples c.advance_awake.new.bus)
