-- The registers by their names, and what the voices and the echo read of them.
use Rattle.std.specs.Prelude.{ℕ, ◌+◌, ◌*◌, ◌%◌, List, map, Bool, slice_index}
use Rattle.std.specs.List.{range_with_len}
use Rattle.num_fix.specs.Arithmetic.{has_bit}
use Rattle.voice_unit.specs.declared.interface.VoiceRegs.{VoiceRegs}
use Rattle.echo_unit.specs.declared.regs.EchoRegs.{EchoRegs}
use Rattle.dsp_state.specs.declared.registers.TheConstants.{PITCHL, PITCHH, SRCN, ADSR1, ADSR2, GAIN, FIR, MVOLL, MVOLR, EVOLL, EVOLR, EFB, FLG, ESA, EDL}

-- a register of voice v
abbrev pub voice_register : (registers : List ℕ) → (v register : ℕ) → ℕ
voice_register registers v register = slice_index registers (16 * v + register)

-- what voice v reads of its registers; the pitch has 14 bits
unfoldable pub voice_regs : (registers : List ℕ) → (v : ℕ) → VoiceRegs
voice_regs registers v = record {
  pitch = (voice_register registers v PITCHL + 0x100 * voice_register registers v PITCHH) % 0x4000;
  srcn = voice_register registers v SRCN;
  adsr1 = voice_register registers v ADSR1;
  adsr2 = voice_register registers v ADSR2;
  gain = voice_register registers v GAIN;
}

-- what the echo reads
unfoldable pub echo_regs : (registers : List ℕ) → EchoRegs
echo_regs registers = record {
  esa = slice_index registers ESA;
  edl = slice_index registers EDL;
  flg = slice_index registers FLG;
  efb = slice_index registers EFB;
  mvol_l = slice_index registers MVOLL;
  mvol_r = slice_index registers MVOLR;
  evol_l = slice_index registers EVOLL;
  evol_r = slice_index registers EVOLR;
  fir = map (λ i. slice_index registers (16 * i + FIR)) (range_with_len 0 8);
}

-- the soft reset, bit 7 of FLG
abbrev pub is_soft_reset : (flg : ℕ) → Bool
is_soft_reset flg = has_bit flg 7

-- the rate of the noise, the low 5 bits of FLG
abbrev pub noise_rate : (flg : ℕ) → ℕ
noise_rate flg = flg % 32
