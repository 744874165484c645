-- An envelope after the steps of some samples.
use Rattle.std.proofs.Common.{◌≡◌, ℕ, zero, suc, ◌*◌, ◌+◌, ◌-◌, ◌≤◌, refl, ap, ◌∙◌, add-one, arith}
use Rattle.std.proofs.Math.Nat.{add-suc}
use Rattle.rate_clock.specs.Counter.{counter_at}
use Rattle.envelope.specs.Envelope.{EnvelopeState, step_target, after_target, envelope_step}
use Rattle.envelope.specs.UntilChange.{StaysFor}
use Rattle.envelope.specs.Steps.{envelope_after}
use Rattle.envelope.specs.declared.Mode.TheVariants.{Release}
use Rattle.voice_batch.specs.FreeEnvelope.{IsSilent}
use Rattle.voice_batch.specs.Levels.{envelope_from}
use Rattle.voice_unit.specs.declared.interface.VoiceRegs.{VoiceRegs}

-- no step, and one more
pub envelope_from-zero : (e : EnvelopeState) (r : VoiceRegs) (k : ℕ) → envelope_from e r k 0 ≡ e
unfolding envelope_from envelope_after
envelope_from-zero e r k = refl

pub envelope_from-more : (e : EnvelopeState) (r : VoiceRegs) (k j : ℕ) → envelope_from e r k (j + 1)
    ≡ envelope_step (envelope_from e r k j) r.adsr1 r.adsr2 r.gain (counter_at (k + j))
unfolding envelope_from envelope_after
envelope_from-more e r k j = rw add-one refl

-- the steps of some samples and then of others
pub envelope_from-add : (e : EnvelopeState) (r : VoiceRegs) (k j i : ℕ) → envelope_from e r k (j + i) ≡ envelope_from (envelope_from e r k j) r (k + j) i
unfolding envelope_from envelope_after
envelope_from-add e r k j zero = let none : j + 0 ≡ j = omega arith in rw none refl
envelope_from-add e r k j (suc i) =
    let far : k + (j + i) ≡ k + j + i = omega arith in
    rw add-suc (ap (λ (x : EnvelopeState). envelope_step x r.adsr1 r.adsr2 r.gain (counter_at (k + (j + i)))) (envelope_from-add e r k j i)
    ∙ ap (λ (m : ℕ). envelope_step (envelope_from (envelope_from e r k j) r (k + j) i) r.adsr1 r.adsr2 r.gain (counter_at m)) far)

-- an envelope that rests is left as it is
pub without_change : (e : EnvelopeState) (r : VoiceRegs) (k samples_until_change j : ℕ) → StaysFor e r.adsr1 r.adsr2 r.gain k samples_until_change → j ≤ samples_until_change → envelope_from e r k j ≡ e
unfolding envelope_from envelope_after
without_change e r k samples_until_change zero unchanged few = refl
without_change e r k samples_until_change (suc j) unchanged few =
    ap (λ (x : EnvelopeState). envelope_step x r.adsr1 r.adsr2 r.gain (counter_at (k + j))) (without_change e r k samples_until_change j unchanged (omega (arith, few)))
    ∙ unchanged j (omega (arith, few))

-- each step of a released envelope takes 8 from its level
released_step : (e : EnvelopeState) (adsr1 adsr2 gain counter : ℕ) → e.mode ≡ Release → envelope_step e adsr1 adsr2 gain counter ≡ record e { level = e.level - 8 }
unfolding envelope_step step_target after_target
released_step e adsr1 adsr2 gain counter is = rw is refl

pub released_after : (e : EnvelopeState) (r : VoiceRegs) (k j : ℕ) → e.mode ≡ Release → envelope_from e r k j ≡ record e { level = e.level - 8 * j }
unfolding envelope_from envelope_after
released_after e r k zero is = let same : e.level - 8 * 0 ≡ e.level = omega arith in rw same refl
released_after e r k (suc j) is =
    let less : e.level - 8 * j - 8 ≡ e.level - 8 * suc j = omega arith in
    ap (λ (x : EnvelopeState). envelope_step x r.adsr1 r.adsr2 r.gain (counter_at (k + j))) (released_after e r k j is)
    ∙ released_step (record e { level = e.level - 8 * j }) r.adsr1 r.adsr2 r.gain (counter_at (k + j)) is ∙ ap (λ (l : ℕ). record e { level = l }) less

-- so it stays released, and one that is silent stays silent
pub stays_released : (e : EnvelopeState) (r : VoiceRegs) (k j : ℕ) → e.mode ≡ Release → (envelope_from e r k j).mode ≡ Release
stays_released e r k j is = ap (λ (x : EnvelopeState). x.mode) (released_after e r k j is) ∙ is

pub stays_silent : (e : EnvelopeState) (r : VoiceRegs) (k j : ℕ) → IsSilent e → IsSilent (envelope_from e r k j)
stays_silent e r k j is = record {
  mode = stays_released e r k j is.mode;
  level = ap (λ (x : EnvelopeState). x.level) (released_after e r k j is.mode) ∙ omega (arith, is.level);
}
