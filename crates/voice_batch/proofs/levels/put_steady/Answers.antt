use Rattle.std.proofs.Common.{◌≡◌, ◌+◌, ℕ, sym, ap, ◌∙◌, arith}
use Rattle.rate_clock.specs.Counter.{counter_at}
use Rattle.envelope.specs.Envelope.{EnvelopeState, envelope_step}
use Rattle.voice_unit.specs.declared.interface.VoiceRegs.{VoiceRegs}
use Rattle.voice_batch.proofs.Stepped.{envelope_from-more, without_change}
use Rattle.voice_batch.proofs.levels.put_steady.Goals as goal

pub returns-then-from-samples_until_change-clause-stays : goal.returns-then-from-samples_until_change-clause-stays
returns-then-from-samples_until_change-clause-stays c k is j below =
    without_change c.args.envelope.now c.args.reads.now.regs (k + c.args.at) c.samples_until_change-samples_until_change.result j
    (c.samples_until_change-samples_until_change.ensures.unchanged (k + c.args.at) (c.clock_in-clock.ensures k is)) (omega (arith, below))

pub returns-then-from-samples_until_change-clause-envelope : goal.returns-then-from-samples_until_change-clause-envelope
returns-then-from-samples_until_change-clause-envelope c k is =
    sym (without_change c.args.envelope.now c.args.reads.now.regs (k + c.args.at) c.samples_until_change-samples_until_change.result c.args.n
    (c.samples_until_change-samples_until_change.ensures.unchanged (k + c.args.at) (c.clock_in-clock.ensures k is)) (omega arith))

pub returns-clause-stays : goal.returns-clause-stays
returns-clause-stays c k is j below =
    without_change c.args.envelope.now c.args.reads.now.regs (k + c.args.at) c.samples_until_change-samples_until_change.result j
    (c.samples_until_change-samples_until_change.ensures.unchanged (k + c.args.at) (c.clock_in-clock.ensures k is)) (omega (arith, below))

pub returns-clause-envelope : goal.returns-clause-envelope
returns-clause-envelope c k is =
    let e : EnvelopeState = c.args.envelope.now in
    let r : VoiceRegs = c.args.reads.now.regs in
    let at : ℕ = k + c.args.at in
    let last : ℕ = c.samples_until_change-samples_until_change.result in
    let unchanged = c.samples_until_change-samples_until_change.ensures.unchanged at (c.clock_in-clock.ensures k is) in
    let then : c.after_samples-then.result ≡ counter_at (at + last) = c.after_samples-then.ensures.at at (c.clock_in-clock.ensures k is) in
    rw then at c.step.ensures
    ∙ sym (envelope_from-more e r at last ∙ ap (λ (x : EnvelopeState). envelope_step x r.adsr1 r.adsr2 r.gain (counter_at (at + last))) (without_change e r at last last unchanged (omega arith)))
