-- The settings that are read of registers, and that samples leave as they are.
use Rattle.std.proofs.Common.{◌≡◌, ℕ, ◌+◌, ◌*◌, ◌<◌, List, [], ◌∷◌, map, slice_index, get_or, refl, ap, ◌∙◌, arith}
use Rattle.std.specs.List.{range_with_len}
use Rattle.std.proofs.lemmas.List.FromFn.{get_or-map-range_with_len}
use Rattle.dsp_state.specs.Registers.{voice_register, voice_regs, echo_regs}
use Rattle.dsp_state.specs.Volumes.{voice_volumes, heard_volumes, all_volumes}
use Rattle.dsp_state.specs.Sample.{sample}
use Rattle.dsp_state.specs.Settings.{voice_settings, all_voice_settings, settings_of}
use Rattle.dsp_state.specs.declared.registers.TheConstants.{VOLL, VOLR, PITCHL, PITCHH, SRCN, ADSR1, ADSR2, GAIN, FIR, MVOLL, MVOLR, EVOLL, EVOLR, EFB, EON, PMON, NON, KOFF, DIR, FLG, ESA, EDL}
use Rattle.dsp_state.specs.declared.voice_settings.VoiceSettings.{VoiceSettings}
use Rattle.dsp_state.specs.declared.settings.Settings.{Settings}
use Rattle.dsp_state.specs.declared.state.ChipState.{ChipState}
use Rattle.dsp_state.proofs.Inputs.{SameInputs, input_at, muted-before_voices, same_inputs-sample}

-- the settings of each voice
voice_of_all : (registers : List ℕ) (v : ℕ) (d : VoiceSettings) → v < 8 → get_or (all_voice_settings registers) v d ≡ voice_settings registers v
unfolding all_voice_settings
voice_of_all registers v d below = get_or-map-range_with_len (λ v. voice_settings registers v) 0 8 v v d below (omega arith)

-- those of settings that are read of registers
pub voice_at : (registers : List ℕ) (muted : ℕ) (settings : Settings) (v : ℕ) (d : VoiceSettings) → settings ≡ settings_of registers muted → v < 8 → get_or settings.voices v d ≡ voice_settings registers v
unfolding settings_of
voice_at registers muted settings v d is below = rw is (voice_of_all registers v d below)

-- functions that agree map a list alike
pub same_map : {X : Type 0} (f g : ℕ → X) → ((v : ℕ) → f v ≡ g v) → (vs : List ℕ) → map f vs ≡ map g vs
same_map f g same [] = refl
same_map f g same (v ∷ vs) = rw (same v, same_map f g same vs) refl

-- registers that differ in results alone have the same settings
module _ (these those : List ℕ) (same : SameInputs these those) where
  -- the registers of a voice but ENVX and OUTX
  same_register : (v register : ℕ) → register < 8 → voice_register these v register ≡ voice_register those v register
  same_register v register low = same (16 * v + register) (input_at (16 * v + register) (omega (arith, low)) (omega (arith, low)) (omega (arith, low)))

  -- what a voice reads
  pub same_voice : (v : ℕ) → voice_settings these v ≡ voice_settings those v
  unfolding voice_settings voice_regs
  same_voice v =
      rw (
        same_register v PITCHL (omega arith),
        same_register v PITCHH (omega arith),
        same_register v SRCN (omega arith),
        same_register v ADSR1 (omega arith),
        same_register v ADSR2 (omega arith),
        same_register v GAIN (omega arith),
        same PMON refl,
        same NON refl,
        same KOFF refl,
      ) refl

  -- its volumes
  same_volumes : (muted v : ℕ) → heard_volumes these muted v ≡ heard_volumes those muted v
  unfolding heard_volumes voice_volumes
  same_volumes muted v = rw (same_register v VOLL (omega arith), same_register v VOLR (omega arith), same EON refl) refl

  -- a coefficient of the echo's filter
  same_coefficient : (i : ℕ) → slice_index these (16 * i + FIR) ≡ slice_index those (16 * i + FIR)
  same_coefficient i = same (16 * i + FIR) (input_at (16 * i + FIR) (omega arith) (omega arith) (omega arith))

  -- what the echo reads
  same_echo : echo_regs these ≡ echo_regs those
  unfolding echo_regs
  same_echo =
      rw (
        same_map (λ i. slice_index these (16 * i + FIR)) (λ i. slice_index those (16 * i + FIR)) same_coefficient (range_with_len 0 8),
        same ESA refl,
        same EDL refl,
        same FLG refl,
        same EFB refl,
        same MVOLL refl,
        same MVOLR refl,
        same EVOLL refl,
        same EVOLR refl,
      ) refl

  -- all of them
  pub same_settings : (muted : ℕ) → settings_of these muted ≡ settings_of those muted
  unfolding settings_of all_voice_settings all_volumes
  same_settings muted =
      rw (
        same_map (λ v. voice_settings these v) (λ v. voice_settings those v) same_voice (range_with_len 0 8),
        same_map (λ v. heard_volumes these muted v) (λ v. heard_volumes those muted v) (same_volumes muted) (range_with_len 0 8),
        same DIR refl,
        same FLG refl,
        same_echo,
      ) refl

-- a sample leaves the muted voices as they are
pub muted-sample : (k : ℕ) (s : ChipState) (memory : List ℕ) → (sample k s memory).state.muted ≡ s.muted
unfolding sample
muted-sample k s memory = muted-before_voices s k

-- and the settings
pub settings_of-sample : (k : ℕ) (s : ChipState) (memory : List ℕ) → settings_of (sample k s memory).state.registers (sample k s memory).state.muted ≡ settings_of s.registers s.muted
settings_of-sample k s memory =
    ap (λ (muted : ℕ). settings_of (sample k s memory).state.registers muted) (muted-sample k s memory)
    ∙ same_settings (sample k s memory).state.registers s.registers (same_inputs-sample k s memory) s.muted
