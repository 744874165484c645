-- What samples read of the registers: what the voices, the noise, the sums and the echo do until a register is written.
use Rattle.std.specs.Prelude.{ℕ, ◌+◌, ◌*◌, ◌%◌, ◌<◌, List, map, slice_index}
use Rattle.std.specs.List.{range_with_len}
use Rattle.std.proofs.Common.{arith}
use Rattle.num_fix.specs.Arithmetic.{has_bit}
use Rattle.voice_unit.specs.Voice.{is_modulated}
use Rattle.dsp_state.specs.Registers.{voice_register, voice_regs, echo_regs, is_soft_reset, noise_rate}
use Rattle.dsp_state.specs.Volumes.{all_volumes}
use Rattle.dsp_state.specs.declared.registers.TheConstants.{PITCHL, PITCHH, DIR, FLG, KOFF, NON, PMON}
use Rattle.dsp_state.specs.declared.voice_settings.VoiceSettings.{VoiceSettings}
use Rattle.dsp_state.specs.declared.settings.Settings.{Settings}

-- the low 14 bits of a number
pub pitch_of_14_bits : (n : ℕ) → n % 0x4000 < 0x4000
pitch_of_14_bits n = omega arith

-- what voice v reads beside its volumes; voice 0 is never modulated
unfoldable pub voice_settings : (registers : List ℕ) → (v : ℕ) → VoiceSettings
unfolding voice_regs
voice_settings registers v = record {
  regs = voice_regs registers v;
  modulated = is_modulated (slice_index registers PMON) v;
  noisy = has_bit (slice_index registers NON) v;
  koff = has_bit (slice_index registers KOFF) v;
  pitch_of_14_bits = pitch_of_14_bits (voice_register registers v PITCHL + 0x100 * voice_register registers v PITCHH);
}

-- what each voice reads beside its volumes
unfoldable pub all_voice_settings : (registers : List ℕ) → List VoiceSettings
all_voice_settings registers = map (λ v. voice_settings registers v) (range_with_len 0 8)

-- what a sample reads, where some voices are muted
unfoldable pub settings_of : (registers : List ℕ) → (muted : ℕ) → Settings
settings_of registers muted = record {
  voices = all_voice_settings registers;
  volumes = all_volumes registers muted;
  dir = slice_index registers DIR;
  reset = is_soft_reset (slice_index registers FLG);
  noise_rate = noise_rate (slice_index registers FLG);
  echo = echo_regs registers;
}
