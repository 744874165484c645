use Rattle.std.proofs.Common.{rules, ◌≡◌, ◌<◌, ◌+◌, ◌-◌, inl, inr, ℕ, refl, sym, ap, ◌∙◌, arith}
use Rattle.std.proofs.lemmas.Bool.{cases_lt}
use Rattle.rate_clock.specs.Counter.{counter_at}
use Rattle.envelope.specs.Envelope.{EnvelopeState}
use Rattle.envelope.specs.declared.Mode.TheVariants.{Release}
use Rattle.voice_batch.specs.Levels.{envelope_from}
use Rattle.voice_unit.specs.declared.interface.VoiceRegs.{VoiceRegs}
use Rattle.voice_batch.proofs.Stepped.{envelope_from-zero, envelope_from-add, released_after}
use Rattle.voice_batch.proofs.levels.put_levels.Goals as goal

pub levels-init : goal.levels-init
levels-init c = record {
  few = omega arith;
  levels = λ k is i below. absurd (omega (arith, below));
  within = λ i below. absurd (omega (arith, below));
  envelope = λ k is. sym (envelope_from-zero c.args.envelope.now c.args.reads.now.regs (k + c.args.at));
}

pub levels-preserved : goal.levels-preserved
levels-preserved c =
    let j : ℕ = c.levels.j in
    let at : ℕ = c.args.at in
    let e : EnvelopeState = c.args.envelope.now in
    let r : VoiceRegs = c.args.reads.now.regs in
    let held : ℕ = c.put_steady-j.result in
    let now : (k : ℕ) → c.args.reads.now.clock ≡ counter_at k → (i : ℕ) → envelope_from e r (k + at) (j + i) ≡ envelope_from c.levels.envelope r (k + (at + j)) i =
    λ k is i.
    let far : k + at + j ≡ k + (at + j) = omega arith in
    envelope_from-add e r (k + at) j i ∙ rw (far, c.levels.invariant.envelope k is) refl in
    record {
      few = omega (arith, c.put_steady-j.ensures.few, c.levels-test.true);
      levels = λ k is i below. elim (cases_lt i j) [
        | inl early ↦ c.put_steady-j.ensures.before (at + i) (omega (arith, early)) ∙ c.levels.invariant.levels k is i early
        | inr late ↦ (
            let part : j + (i - j) ≡ i = omega (arith, late) in
            let there : at + j + (i - j) ≡ at + i = omega (arith, late) in
            let new : i - j < held = omega (arith, below, late) in
            let level = rw there at (c.put_steady-j.ensures.level (i - j) new) in
            let same = rw part at (now k is (i - j)) in
            level ∙ ap (λ (x : EnvelopeState). x.level) (sym (same ∙ c.put_steady-j.ensures.stays k is (i - j) new)))
      ];
      within = λ i below. elim (cases_lt i j) [
        | inl early ↦ rw (c.put_steady-j.ensures.before (at + i) (omega (arith, early))) (c.levels.invariant.within i early)
        | inr late ↦ (
            let there : at + j + (i - j) ≡ at + i = omega (arith, late) in
            rw there at (c.put_steady-j.ensures.within (i - j) (omega (arith, below, late))))
      ];
      envelope = λ k is. c.put_steady-j.ensures.envelope k is ∙ sym (now k is held);
    }

pub returns-then-eq-clause-levels : goal.returns-then-eq-clause-levels
returns-then-eq-clause-levels c k is j below =
    let released : c.args.envelope.now.mode ≡ Release = search rules in
    c.put_released.ensures.levels j below ∙ sym (ap (λ (x : EnvelopeState). x.level) (released_after c.args.envelope.now c.args.reads.now.regs (k + c.args.at) j released))

pub returns-then-eq-clause-envelope : goal.returns-then-eq-clause-envelope
returns-then-eq-clause-envelope c k is =
    let released : c.args.envelope.now.mode ≡ Release = search rules in
    c.put_released.ensures.envelope ∙ sym (released_after c.args.envelope.now c.args.reads.now.regs (k + c.args.at) c.args.n released)
