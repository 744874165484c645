-- Registers that differ in results alone: voices read the same of them, and so do the sums and the echo.
use Rattle.std.proofs.Common.{◌≡◌, ℕ, ◌+◌, List, [], ◌∷◌, ℤ, refl, ap}
use Rattle.voice_unit.specs.Voice.{VoiceState}
use Rattle.dsp_state.specs.Registers.{voice_regs, echo_regs}
use Rattle.dsp_state.specs.Settings.{voice_settings, settings_of}
use Rattle.dsp_state.specs.Volumes.{all_volumes}
use Rattle.dsp_state.specs.Sample.{SharedInput, VoiceResult, voice_in, voice_result, results_from}
use Rattle.dsp_state.specs.declared.registers.TheConstants.{DIR, FLG}
use Rattle.dsp_state.specs.declared.settings.Settings.{Settings}
use Rattle.dsp_state.specs.declared.voice_settings.VoiceSettings.{VoiceSettings}
use Rattle.dsp_state.proofs.Inputs.{SameInputs}
use Rattle.dsp_state.proofs.ReadOnce.{same_settings, same_voice}

module _ (these those : List ℕ) (same : SameInputs these those) where
  same_regs : (v : ℕ) → voice_regs these v ≡ voice_regs those v
  unfolding voice_settings
  same_regs v = ap (λ (one : VoiceSettings). one.regs) (same_voice these those same v)

  -- what becomes of a voice
  same_result : (shared : SharedInput) (v : ℕ) (previous : ℤ) (voice : VoiceState)
      → voice_result (record shared { registers = these }) v previous voice ≡ voice_result (record shared { registers = those }) v previous voice
  unfolding voice_result voice_in
  same_result shared v previous voice = rw (same_regs v, same_voice these those same v, same DIR refl, same FLG refl) refl

  -- what becomes of the voices
  pub same_results : (shared : SharedInput) (v : ℕ) (previous : ℤ) (voices : List VoiceState)
      → results_from (record shared { registers = these }) v previous voices ≡ results_from (record shared { registers = those }) v previous voices
  same_results shared v previous [] = refl
  same_results shared v previous (voice ∷ voices) =
      let out : ℤ = (voice_result (record shared { registers = those }) v previous voice).answer.out in
      rw (same_result shared v previous voice)
      (ap (λ (results : List VoiceResult). voice_result (record shared { registers = those }) v previous voice ∷ results) (same_results shared (v + 1) out voices))

  -- the volumes of the sums, and what the echo reads
  pub same_volumes : (muted : ℕ) → all_volumes these muted ≡ all_volumes those muted
  unfolding settings_of
  same_volumes muted = ap (λ (settings : Settings). settings.volumes) (same_settings these those same muted)

  pub same_echo_regs : echo_regs these ≡ echo_regs those
  unfolding settings_of
  same_echo_regs = ap (λ (settings : Settings). settings.echo) (same_settings these those same 0)
