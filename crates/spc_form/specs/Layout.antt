-- The fields of an SPC file of 66,048 bytes (SPC file format text v0.30). The numbers of their places are constants of src/parts.rt.
use Rattle.std.specs.Prelude.{ℕ, ◌+◌, ◌*◌, List, slice_index, take, drop}
use Rattle.aram_core.specs.declared.aram.TheConstants.{MEMORY_SIZE}
use Rattle.spc_form.specs.declared.parts.TheConstants.{TAG_MARK_PLACE, MINOR_PLACE, PC_PLACE, A_PLACE, X_PLACE, Y_PLACE, PSW_PLACE, SP_PLACE}
use Rattle.spc_form.specs.declared.parts.TheConstants.{MEMORY_PLACE, DSP_PLACE, DSP_SIZE, EXTRA_PLACE, ROM_SIZE}

-- where the memory begins
abbrev pub memory_place : ℕ
memory_place = MEMORY_PLACE

-- where the registers of the S-DSP begin, and how many there are
abbrev pub dsp_place : ℕ
dsp_place = DSP_PLACE

abbrev pub dsp_size : ℕ
dsp_size = DSP_SIZE

-- where the extra bytes begin, and how many there are: as many as the boot ROM has
abbrev pub extra_place : ℕ
extra_place = EXTRA_PLACE

abbrev pub rom_size : ℕ
rom_size = ROM_SIZE

-- the word at a place, low byte first
abbrev pub word_of : (file : List ℕ) → (place : ℕ) → ℕ
word_of file place = slice_index file place + 256 * slice_index file (place + 1)

-- the byte that says whether there are tags, and the minor number of the version
abbrev pub tag_mark_of : (file : List ℕ) → ℕ
tag_mark_of file = slice_index file TAG_MARK_PLACE

abbrev pub minor_of : (file : List ℕ) → ℕ
minor_of file = slice_index file MINOR_PLACE

-- the processor's registers; of the stack pointer the low byte
abbrev pub pc_of : (file : List ℕ) → ℕ
pc_of file = word_of file PC_PLACE

abbrev pub a_of : (file : List ℕ) → ℕ
a_of file = slice_index file A_PLACE

abbrev pub x_of : (file : List ℕ) → ℕ
x_of file = slice_index file X_PLACE

abbrev pub y_of : (file : List ℕ) → ℕ
y_of file = slice_index file Y_PLACE

abbrev pub psw_of : (file : List ℕ) → ℕ
psw_of file = slice_index file PSW_PLACE

abbrev pub sp_of : (file : List ℕ) → ℕ
sp_of file = slice_index file SP_PLACE

-- some bytes from a place on
unfoldable pub part_of : (bytes : List ℕ) → (place count : ℕ) → List ℕ
part_of bytes place count = take count (drop place bytes)

-- the memory
abbrev pub memory_of : (file : List ℕ) → List ℕ
memory_of file = part_of file memory_place MEMORY_SIZE

-- the registers of the S-DSP
abbrev pub dsp_of : (file : List ℕ) → List ℕ
dsp_of file = part_of file dsp_place dsp_size

-- the extra bytes: the memory beneath the boot ROM
abbrev pub extra_of : (file : List ℕ) → List ℕ
extra_of file = part_of file extra_place rom_size
