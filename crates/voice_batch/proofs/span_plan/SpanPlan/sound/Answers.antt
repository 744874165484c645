use Rattle.std.proofs.Common.{◌≡◌, ◌+◌, ◌-◌, ◌%◌, slice_index, sym, ap, ◌∙◌, arith}
use Rattle.envelope.specs.Envelope.{EnvelopeState}
use Rattle.voice_batch.specs.Levels.{level_in}
use Rattle.voice_batch.proofs.Stepped.{without_change}
use Rattle.voice_batch.proofs.span_plan.SpanPlan.sound.Goals as goal

pub returns-then-from-samples_until_change-clause-outs : goal.returns-then-from-samples_until_change-clause-outs
returns-then-from-samples_until_change-clause-outs c k is j below =
    let still = without_change c.args.self.now.envelope c.args.reads.now.regs (k + c.args.at) c.samples_until_change-samples_until_change.result j
    (c.samples_until_change-samples_until_change.ensures.unchanged (k + c.args.at) (c.clock_in-clock.ensures k is)) (omega (arith, below)) in
    rw (level_in, still) (c.sound_at_level.ensures.outs j below)

pub returns-then-from-samples_until_change-clause-envelope : goal.returns-then-from-samples_until_change-clause-envelope
returns-then-from-samples_until_change-clause-envelope c k is =
    sym (without_change c.args.self.now.envelope c.args.reads.now.regs (k + c.args.at) c.samples_until_change-samples_until_change.result c.args.n
    (c.samples_until_change-samples_until_change.ensures.unchanged (k + c.args.at) (c.clock_in-clock.ensures k is)) (omega arith))

pub returns-then-from-samples_until_change-clause-level : goal.returns-then-from-samples_until_change-clause-level
returns-then-from-samples_until_change-clause-level c k is =
    let still = without_change c.args.self.now.envelope c.args.reads.now.regs (k + c.args.at) c.samples_until_change-samples_until_change.result (c.args.n - 1)
    (c.samples_until_change-samples_until_change.ensures.unchanged (k + c.args.at) (c.clock_in-clock.ensures k is)) (omega arith) in
    c.level.ensures.value ∙ sym (ap (λ (x : EnvelopeState). x.level) still)

pub returns-clause-outs : goal.returns-clause-outs
returns-clause-outs c k is j below =
    let level : slice_index c.put_levels.new.levels (c.args.at + j) % 0x800 ≡ level_in c.args.self.now.envelope c.args.reads.now.regs (k + c.args.at) j =
    omega (arith, c.put_levels.ensures.within j below, c.put_levels.ensures.levels k is j below) in
    rw level at (c.sound_by_levels.ensures.outs j below)

pub returns-clause-level : goal.returns-clause-level
returns-clause-level c k is =
    let last : c.from-2.result - 1 ≡ c.args.at + (c.args.n - 1) = omega (arith, c.from-2.ensures, c.requires.some) in
    rw last (c.put_levels.ensures.levels k is (c.args.n - 1) (omega (arith, c.requires.some)))

pub returns-clause-within : goal.returns-clause-within
returns-clause-within c =
    let last : c.from-2.result - 1 ≡ c.args.at + (c.args.n - 1) = omega (arith, c.from-2.ensures, c.requires.some) in
    rw last (omega (arith, c.put_levels.ensures.within (c.args.n - 1) (omega (arith, c.requires.some))))
