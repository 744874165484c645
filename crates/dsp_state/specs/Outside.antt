-- The state at the opening, and the registers seen from outside.
use Rattle.std.specs.Prelude.{ℕ, ◌%◌, ◌==◌, nat_le, List, ℤ, replicate, slice_index, slice_set, if◌then◌else◌}
use Rattle.voice_unit.specs.Voice.{silent_voice}
use Rattle.echo_unit.specs.Echo.{first_echo}
use Rattle.rate_clock.specs.Noise.{noise_at}
use Rattle.dsp_state.specs.declared.registers.TheConstants.{KON, ENDX}
use Rattle.dsp_state.specs.declared.state.ChipState.{ChipState}

-- the state at the opening, over a table and with these voices muted: the key-ons of the register are pending, and no key, sample or
-- echo is left from before
unfoldable pub opened_state : (registers : List ℕ) → (table : List ℤ) → (muted : ℕ) → ChipState
opened_state registers table muted = record {
  registers = registers;
  hidden = record {
    kon_pending = slice_index registers KON;
    kon_latched = 0;
    noise = noise_at 0;
    voices = replicate 8 silent_voice;
    echo = first_echo;
  };
  table = table;
  muted = muted;
}

-- the register at an address, taken modulo 128
unfoldable pub register_read : ChipState → (address : ℕ) → ℕ
register_read s address = slice_index s.registers (address % 0x80)

-- A write stores its byte, but ENDX is cleared by any byte. A write of KON also makes its key-ons pending in place of
-- those that were. From 80h on nothing is written.
unfoldable pub register_write : ChipState → (address byte : ℕ) → ChipState
register_write s address byte =
    if nat_le 0x80 address then s
    else record s {
      registers = slice_set s.registers address (if address == ENDX then 0 else byte);
      hidden = record s.hidden { kon_pending = if address == KON then byte else s.hidden.kon_pending };
    }
