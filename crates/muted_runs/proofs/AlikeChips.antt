-- The S-DSP is blind to volumes of muted voices.
use Rattle.std.proofs.Common.{◌≡◌, ℕ, ◌+◌, ◌%◌, ◌==◌, nat_le, List, [], ◌∷◌, Bool, true, false, refl, ap, ◌∙◌, arith}
use Rattle.std.specs.Prelude.{if◌then◌else◌, slice_set}
use Rattle.num_fix.specs.declared.Frame.{Frame}
use Rattle.chip_form.specs.Samples.{SampleResult, SamplesResult, one_more, samples}
use Rattle.dsp_state.specs.Sample.{sample}
use Rattle.dsp_state.specs.Outside.{register_write}
use Rattle.dsp_state.specs.declared.registers.TheConstants.{KON, ENDX}
use Rattle.dsp_state.specs.declared.state.ChipState.{ChipState}
use Rattle.dsp_state.proofs.Inputs.{muted-before_voices}
use Rattle.dsp_core.specs.DspChip.{dsp_chip}
use Rattle.mute_laws.specs.MutedVolumes.{AreAlike, MakeTheSame, is_muted_volume}
use Rattle.mute_laws.proofs.Alike.{samples_stay_alike}
use Rattle.mute_laws.proofs.Writes.{reads_stay_alike, writes_stay_alike}
use Rattle.muted_runs.proofs.BlindRuns.{IsBlindTo, with_state}

-- with these voices muted
pub record AreAlikeMuted (muted : ℕ) (s t : ChipState) : Type 0 where
  pub own : s.muted ≡ muted
  pub alike : AreAlike s t

abbrev first_or : Frame → List Frame → Frame
first_or other [] = other
first_or other (frame ∷ frames) = frame

module _ (muted k : ℕ) (s t : ChipState) (memory : List ℕ) (both : AreAlikeMuted muted s t) where
  abbrev one : SampleResult ChipState
  one = sample k s memory

  abbrev other : SampleResult ChipState
  other = sample k t memory

  -- one sample alone
  abbrev alone : ChipState → SamplesResult ChipState
  alone u = one_more sample k (record { state = u; memory = memory; frames = []; records = [] })

  is_alone : (u : ChipState) → samples sample 1 k u memory ≡ alone u
  unfolding samples
  is_alone u =
      let at : k + 0 ≡ k = omega arith in
      ap (λ (n : ℕ). one_more sample n (record { state = u; memory = memory; frames = []; records = [] })) at

  made : MakeTheSame (alone s) (alone t)
  made = rw (is_alone s, is_alone t) at (samples_stay_alike 1 k s t memory both.alike)

  gives : other ≡ with_state one other.state
  gives =
      let frame : one.frame ≡ other.frame = ap (first_or one.frame) made.frames in
      let records : one.records ≡ other.records = made.records in
      let after : one.memory ≡ other.memory = made.memory in
      rw (frame, records, after) refl

  leaves : AreAlikeMuted muted one.state other.state
  unfolding sample
  leaves = record { own = muted-before_voices s k ∙ both.own; alike = made.state }

muted-write : (s : ChipState) (address byte : ℕ) → (register_write s address byte).muted ≡ s.muted
unfolding register_write
muted-write s address byte = by (nat_le 0x80 address)
  where
    by : (b : Bool) → (if b then s else record s {
      registers = slice_set s.registers address (if address == ENDX then 0 else byte);
      hidden = record s.hidden { kon_pending = if address == KON then byte else s.hidden.kon_pending };
    }).muted ≡ s.muted
    by true = refl
    by false = refl

pub dsp_is_blind : (muted : ℕ) → IsBlindTo dsp_chip (is_muted_volume muted) (AreAlikeMuted muted)
dsp_is_blind muted = record {
  reads = λ s t address both free.
      let again : address % 0x80 % 0x80 ≡ address % 0x80 = omega arith in
      reads_stay_alike s t (address % 0x80) both.alike (rw (both.own, again) free);
  writes = λ s t address byte both. record { own = muted-write s address byte ∙ both.own; alike = writes_stay_alike s t address byte both.alike };
  gives = λ k s t memory both. gives muted k s t memory both;
  leaves = λ k s t memory both. leaves muted k s t memory both;
}
