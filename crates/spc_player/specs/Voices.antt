-- What shows of the S-DSP's voices (registers: Anomie's S-DSP Doc; what is shown is own).
use Rattle.std.specs.Prelude.{ℕ, get_or}
use Rattle.num_fix.specs.Arithmetic.{sign8}
use Rattle.voice_unit.specs.Voice.{silent_voice}
use Rattle.dsp_state.specs.declared.registers.TheConstants.{OUTX}
use Rattle.dsp_state.specs.declared.state.ChipState.{ChipState}
use Rattle.dsp_state.specs.Registers.{voice_register, voice_regs}
use Rattle.spc_player.specs.declared.voices.ShownVoice.{ShownVoice}

-- of voice v the level of its envelope, the pitch and the source of its registers, and the byte of OUTX with its sign
abbrev pub shown_voice : ChipState → (v : ℕ) → ShownVoice
shown_voice chip v = record {
  level = (get_or chip.hidden.voices v silent_voice).envelope.level;
  pitch = (voice_regs chip.registers v).pitch;
  output = sign8 (voice_register chip.registers v OUTX);
  source = (voice_regs chip.registers v).srcn;
}
