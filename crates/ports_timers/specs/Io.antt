-- The ports, the ROM and the timers, at the addresses F0h to FFh, and FFC0h to FFFFh while the ROM shows.
use Rattle.std.specs.Prelude.{ℕ, ◌-◌, ◌%◌, List, [], ◌∷◌, replicate, Bool, not, ◌&&◌, ◌||◌, nat_le, ◌==◌, if◌then◌else◌, Option, Some, None, slice_index, slice_set}
use Rattle.num_fix.specs.Arithmetic.{has_bit}
use Rattle.ports_timers.specs.declared.timer.Timer.{Timer}
use Rattle.ports_timers.specs.declared.io.Io.{Io}
use Rattle.ports_timers.specs.Timer.{after_cycles, restarted_timer, after_output_read}

-- a number of the range from a to b, both included
abbrev pub is_within : (a b : ℕ) → ℕ → Bool
is_within a b n = nat_le a n && nat_le n b

-- The bits of the control byte F1h: 0 to 2 enable the timers, 4 and 5 clear input latches, 7 shows the ROM.
abbrev pub is_enabled : (timer : ℕ) → (control : ℕ) → Bool
is_enabled timer control = has_bit control timer

abbrev pub shows_rom : (control : ℕ) → Bool
shows_rom control = has_bit control 7

-- a timer as opening leaves it, with the low four bits of its output cell
abbrev pub first_timer : (target output : ℕ) → Timer
first_timer target output = record { target = target; inner = 0; output = output % 16 }

-- what the cells F0h to FFh open, over a ROM
abbrev pub first_io : (cells rom : List ℕ) → Io
first_io cells rom =
    let cell = λ (at : ℕ). slice_index cells (at - 0xF0) in
    record {
      control = cell 0xF1;
      dsp_address = cell 0xF2;
      input = cell 0xF4 ∷ cell 0xF5 ∷ cell 0xF6 ∷ cell 0xF7 ∷ [];
      output = replicate 4 0;
      timer0 = first_timer (cell 0xFA) (cell 0xFD);
      timer1 = first_timer (cell 0xFB) (cell 0xFE);
      timer2 = first_timer (cell 0xFC) (cell 0xFF);
      rom = rom;
    }

-- Where a read has its answer here, and not from memory or, at F3h, from the S-DSP.
abbrev pub answers_read : Io → (address : ℕ) → Bool
answers_read io at =
    is_within 0xF0 0xF2 at || is_within 0xF4 0xF7 at || is_within 0xFA 0xFF at || is_within 0xFFC0 0xFFFF at && shows_rom io.control

-- what a read is answered
abbrev pub read_answer : Io → (address : ℕ) → Option ℕ
read_answer io at =
    if at == 0xF2 then Some io.dsp_address
    else if is_within 0xF4 0xF7 at then Some (slice_index io.input (at - 0xF4))
    else if at == 0xFD then Some io.timer0.output
    else if at == 0xFE then Some io.timer1.output
    else if at == 0xFF then Some io.timer2.output
    else if is_within 0xFFC0 0xFFFF at && shows_rom io.control then Some (slice_index io.rom (at - 0xFFC0))
    else if answers_read io at then Some 0
    else None

-- the state after a read
abbrev pub after_read : Io → (address : ℕ) → Io
after_read io at =
    if at == 0xFD then record io { timer0 = after_output_read io.timer0 }
    else if at == 0xFE then record io { timer1 = after_output_read io.timer1 }
    else if at == 0xFF then record io { timer2 = after_output_read io.timer2 }
    else io

-- the input latches after a write of the control: bit 4 clears 0 and 1, bit 5 clears 2 and 3
abbrev pub latches_after_control : (value : ℕ) → List ℕ → List ℕ
latches_after_control value input =
    let lower = if has_bit value 4 then slice_set (slice_set input 0 0) 1 0 else input in
    if has_bit value 5 then slice_set (slice_set lower 2 0) 3 0 else lower

-- a timer after a write of the control: where its bit changes from 0 to 1 it starts anew
abbrev pub timer_after_control : (old new index : ℕ) → Timer → Timer
timer_after_control old new index timer =
    if not (is_enabled index old) && is_enabled index new then restarted_timer timer else timer

abbrev pub after_control_write : Io → (value : ℕ) → Io
after_control_write io value = record io {
  control = value;
  input = latches_after_control value io.input;
  timer0 = timer_after_control io.control value 0 io.timer0;
  timer1 = timer_after_control io.control value 1 io.timer1;
  timer2 = timer_after_control io.control value 2 io.timer2;
}

-- the state after a write
abbrev pub after_write : Io → (address value : ℕ) → Io
after_write io at value =
    if at == 0xF1 then after_control_write io value
    else if at == 0xF2 then record io { dsp_address = value }
    else if is_within 0xF4 0xF7 at then record io { output = slice_set io.output (at - 0xF4) value }
    else if at == 0xFA then record io { timer0 = record io.timer0 { target = value } }
    else if at == 0xFB then record io { timer1 = record io.timer1 { target = value } }
    else if at == 0xFC then record io { timer2 = record io.timer2 { target = value } }
    else io

-- the state as the clock goes on by some cycles: timers 0 and 1 tick every 128 cycles, timer 2 every 16
abbrev pub after_ticks_of : Io → (clock cycles : ℕ) → Io
after_ticks_of io clock cycles = record io {
  timer0 = after_cycles (is_enabled 0 io.control) 128 clock cycles io.timer0;
  timer1 = after_cycles (is_enabled 1 io.control) 128 clock cycles io.timer1;
  timer2 = after_cycles (is_enabled 2 io.control) 16 clock cycles io.timer2;
}
