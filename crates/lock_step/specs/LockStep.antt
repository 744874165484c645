-- The machine in lock step: each read, write and pass acts at once, and a sample is made every 32 cycles.
use Rattle.std.specs.Prelude.{ℕ, ◌+◌, ◌-◌, ◌/◌, ◌%◌, List, [], ◌∷◌, ◌++◌, Bool, ◌&&◌, ◌==◌, nat_lt, if◌then◌else◌, unwrap_or}
use Rattle.std.specs.List.{filter}
use Rattle.aram_core.specs.Memory.{byte_at, with_byte}
use Rattle.ports_timers.specs.Io.{is_within, read_answer, after_ticks_of}
use Rattle.ports_timers.specs.Io as io
use Rattle.ports_timers.specs.declared.io.Io.{Io}
use Rattle.spc700_exec.specs.Bus.{BusMeaning}
use Rattle.trace_form.specs.declared.record.Record.{Record}
use Rattle.trace_form.specs.declared.record.Record.TheVariants.{Reg, Port}
use Rattle.chip_form.specs.Samples.{in_mask}
use Rattle.chip_form.specs.ChipMeaning.{ChipMeaning}
use Rattle.lock_step.specs.Machine.{Machine}
use Rattle.spc700_exec.specs.declared.bus.TheConstants.{CYCLES_PER_SAMPLE}

-- the samples that are due so far: one every 32 cycles. In step they are made, too.
abbrev pub samples_due : {S : Type 0} → Machine S → ℕ
samples_due m = m.clock / CYCLES_PER_SAMPLE

-- What answers a read: at F3h a chip in this state, at the ports and timers and in the ROM these, and elsewhere memory.
abbrev pub byte_answered : {S : Type 0} → ChipMeaning S → S → Io → (memory : List ℕ) → (at : ℕ) → ℕ
byte_answered chip state io memory at =
    if at == 0xF3 then chip.register_read state (io.dsp_address % 0x80) else unwrap_or (read_answer io at) (byte_at memory at)

-- what a read is answered
abbrev pub bus_answer : {S : Type 0} → ChipMeaning S → Machine S → (at : ℕ) → ℕ
bus_answer chip m at = byte_answered chip m.chip m.io m.memory at

-- the machine after a read
abbrev pub after_bus_read : {S : Type 0} → Machine S → (at : ℕ) → Machine S
after_bus_read m at = record m { io = io.after_read m.io at; calls = m.calls + 1 }

-- whether a write is one of a register of the chip: of F3h while the DSP address is below 80h
abbrev pub writes_register : (dsp_address at : ℕ) → Bool
writes_register dsp_address at = at == 0xF3 && nat_lt dsp_address 0x80

-- whether a write is one of an output port
abbrev pub writes_port : (at : ℕ) → Bool
writes_port at = is_within 0xF4 0xF7 at

-- the records of a write: of a register, of a port, or none
abbrev pub write_records : (sample dsp_address at value : ℕ) → List Record
write_records sample dsp_address at value =
    if writes_register dsp_address at then Reg sample dsp_address value ∷ []
    else if writes_port at then Port sample (at - 0xF4) value ∷ []
    else []

-- A write. It always reaches memory; at F0h to FFh the ports, the timers or the chip take it too.
abbrev pub after_bus_write : {S : Type 0} → ChipMeaning S → Machine S → (at value : ℕ) → Machine S
after_bus_write chip m at value = record m {
  memory = with_byte m.memory at value;
  io = io.after_write m.io at value;
  chip = if writes_register m.io.dsp_address at then chip.register_write m.chip m.io.dsp_address value else m.chip;
  records = m.records ++ write_records (samples_due m) m.io.dsp_address at value;
  calls = m.calls + 1;
}

-- whether a multiple of 32 lies above the clock and at most some cycles on
abbrev pub crosses_sample : (clock cycles : ℕ) → Bool
crosses_sample clock cycles = nat_lt (clock / CYCLES_PER_SAMPLE) ((clock + cycles) / CYCLES_PER_SAMPLE)

-- one sample more: its frame, and the records of the voices in the mask, stand after what was emitted
abbrev pub after_sample : {S : Type 0} → ChipMeaning S → Machine S → Machine S
after_sample chip m =
    let made = chip.one_sample (samples_due m) m.chip m.memory in
    record m {
      chip = made.state;
      memory = made.memory;
      frames = m.frames ++ made.frame ∷ [];
      records = m.records ++ filter (in_mask m.mask) made.records;
    }

-- A pass of 1 to 32 cycles: the timers tick, and a sample is made where the clock comes to a multiple of 32 or passes one.
abbrev pub after_bus_pass : {S : Type 0} → ChipMeaning S → Machine S → (cycles : ℕ) → Machine S
after_bus_pass chip m cycles =
    let made = if crosses_sample m.clock cycles then after_sample chip m else m in
    record made {
      io = after_ticks_of m.io m.clock cycles;
      clock = m.clock + cycles;
      calls = m.calls + 1;
    }

-- the bus of this machine
abbrev pub lock_step : {S : Type 0} → ChipMeaning S → BusMeaning (Machine S)
lock_step chip = record {
  read = λ m at. (bus_answer chip m at, after_bus_read m at);
  write = after_bus_write chip;
  pass = after_bus_pass chip;
  calls = λ m. m.calls;
  clock = λ m. m.clock;
  due = samples_due;
}
