-- What the machine begins with. While bit 7 of the cell F1h is set, the last 64 bytes of the file's memory are the boot ROM
-- and the extra bytes are the memory beneath it (that these bytes serve as ROM is own).
use Rattle.std.specs.Prelude.{ℕ, List, ◌++◌, replicate, slice_index, Bool, if◌then◌else◌}
use Rattle.num_fix.specs.Arithmetic.{has_bit}
use Rattle.spc_form.specs.Layout.{part_of, memory_of, extra_of, rom_size}

-- where the boot ROM begins in memory, and the cells F0h to FFh of ports and timers with how many there are
abbrev pub rom_place : ℕ
rom_place = 0xFFC0

abbrev pub cells_place : ℕ
cells_place = 0xF0

abbrev pub cell_count : ℕ
cell_count = 16

abbrev pub shows_rom_of : (file : List ℕ) → Bool
shows_rom_of file = has_bit (slice_index (memory_of file) 0xF1) 7

abbrev pub opening_memory : (file : List ℕ) → List ℕ
opening_memory file =
    if shows_rom_of file then part_of (memory_of file) 0 rom_place ++ extra_of file else memory_of file

abbrev pub opening_rom : (file : List ℕ) → List ℕ
opening_rom file = if shows_rom_of file then part_of (memory_of file) rom_place rom_size else replicate rom_size 0

-- the cells F0h to FFh
abbrev pub opening_cells : (file : List ℕ) → List ℕ
opening_cells file = part_of (memory_of file) cells_place cell_count
