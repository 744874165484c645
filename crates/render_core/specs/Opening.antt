-- The whole machine that a file opens (SPC file format text v0.30; what the file doesn't hold is own).
use Rattle.std.specs.Prelude.{ℕ, List, false}
use Rattle.spc700_exec.specs.declared.cpu.Cpu.{Cpu}
use Rattle.spc_form.specs.Layout.{pc_of, a_of, x_of, y_of, psw_of, sp_of}
use Rattle.spc_form.specs.Opening.{opening_memory, opening_cells, opening_rom}
use Rattle.lock_step.specs.Machine.{Machine, opened_machine}
use Rattle.render_core.specs.MachineRun.{Whole}

-- the registers are those of the file, and the processor isn't halted
abbrev pub opened_cpu : (file : List ℕ) → Cpu
opened_cpu file = record {
  a = a_of file;
  x = x_of file;
  y = y_of file;
  sp = sp_of file;
  pc = pc_of file;
  psw = psw_of file;
  halted = false;
}

-- the processor, and the machine beneath it with a chip in the state given
abbrev pub opened_whole : {S : Type 0} → (file : List ℕ) → (chip : S) → (mask : ℕ) → Whole (Machine S)
opened_whole file chip mask = (opened_cpu file, opened_machine (opening_memory file) (opening_cells file) (opening_rom file) chip mask)
