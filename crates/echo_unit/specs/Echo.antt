-- One step of the echo.
use Rattle.std.specs.Prelude.{max, ℕ, ◌+◌, ◌*◌, ◌/◌, ◌%◌, Bool, ◌&&◌, ◌==◌, nat_le, nat_lt, List, [], ◌∷◌, ◌++◌, drop, map, replicate, ℤ, pos, ◌+ℤ◌, if◌then◌else◌}
use Rattle.std.specs.Int.{w16, cast_signed, cast_unsigned}
use Rattle.num_fix.specs.Arithmetic.{floor_shift, scaled, wrap16, clamp16, clear_bit0, sign8}
use Rattle.num_fix.specs.declared.Frame.{Frame}
use Rattle.aram_core.specs.Memory.{word_at, with_byte}
use Rattle.echo_unit.specs.Window.{echo_length}
use Rattle.echo_unit.specs.declared.regs.EchoRegs.{EchoRegs}
use Rattle.echo_unit.specs.Flg.{is_muted, has_echo_writes}
use Rattle.echo_unit.specs.Fir.{filtered_sample}

-- The echo between two steps: the place of its next cell in the buffer, the buffer's length in bytes,
-- and the last eight pairs that it read, oldest first.
pub record EchoState : Type 0 where
  pub offset : ℕ
  pub length : ℕ
  pub history : List Frame

-- the silent frame
abbrev pub silent_frame : Frame
silent_frame = record { left = pos 0; right = pos 0 }

-- the echo before its first step
abbrev pub first_echo : EchoState
first_echo = record { offset = 0; length = 0; history = replicate 8 silent_frame }

-- The echo stands at a cell of its buffer, or at its only cell; the buffer is a multiple of 2,048 bytes long, up to 15 of them.
abbrev pub is_at_cell : EchoState → Bool
is_at_cell s = s.offset % 4 == 0 && nat_lt s.offset (max s.length 4) && s.length % 0x800 == 0 && nat_le s.length (15 * 0x800)

-- the address of the cell, four bytes: the left word and the right one
abbrev pub cell_address : (esa offset : ℕ) → ℕ
cell_address esa offset = (esa * 0x100 + offset) % 0x10000

-- the word at an address, read with a sign and halved
unfoldable pub halved_word : (memory : List ℕ) → (address : ℕ) → ℤ
halved_word memory address = floor_shift (cast_signed w16 (word_at memory address)) 1

-- the pair that a step reads from its cell
unfoldable pub cell_pair : (memory : List ℕ) → (address : ℕ) → Frame
cell_pair memory address = record { left = halved_word memory address; right = halved_word memory ((address + 2) % 0x10000) }

-- the last eight pairs, after one more
abbrev pub with_newest : (history : List Frame) → (pair : Frame) → List Frame
with_newest history pair = drop 1 history ++ pair ∷ []

-- the echo after it read its cell
unfoldable pub after_reading : EchoState → EchoRegs → (memory : List ℕ) → EchoState
after_reading s regs memory =
    record s { history = with_newest s.history (cell_pair memory (cell_address regs.esa s.offset)) }

-- what the filter gives for both sides
unfoldable pub filtered_pair : (history : List Frame) → (coefficients : List ℕ) → Frame
filtered_pair history coefficients = record {
  left = filtered_sample (map (λ pair. pair.left) history) coefficients;
  right = filtered_sample (map (λ pair. pair.right) history) coefficients;
}

-- the echo that is heard in a step, before its volume
abbrev pub echo_heard : EchoState → EchoRegs → (memory : List ℕ) → Frame
echo_heard s regs memory = filtered_pair (after_reading s regs memory).history regs.fir

-- a sample times a signed register, over 128
abbrev pub at_volume : ℤ → (volume : ℕ) → ℤ
at_volume sample volume = wrap16 (scaled sample (sign8 volume) 7)

-- the output of one side: its main sum and its echo, each at its volume
unfoldable pub side_output : (main : ℤ) → (main_volume : ℕ) → (echo : ℤ) → (echo_volume : ℕ) → ℤ
side_output main main_volume echo echo_volume = clamp16 (at_volume main main_volume +ℤ at_volume echo echo_volume)

-- the frame of a step, of the voices' main sums
unfoldable pub output_frame : EchoRegs → (main echo : Frame) → Frame
output_frame regs main echo =
    if is_muted regs.flg then silent_frame
    else record {
      left = side_output main.left regs.mvol_l echo.left regs.evol_l;
      right = side_output main.right regs.mvol_r echo.right regs.evol_r;
    }

-- the word that goes back into the buffer, of what the voices send to the echo
unfoldable pub feedback_word : (sent echo : ℤ) → (efb : ℕ) → ℤ
feedback_word sent echo efb = clear_bit0 (clamp16 (sent +ℤ at_volume echo efb))

-- both words of a cell
abbrev pub feedback_pair : (sent echo : Frame) → (efb : ℕ) → Frame
feedback_pair sent echo efb = record { left = feedback_word sent.left echo.left efb; right = feedback_word sent.right echo.right efb }

-- the memory with a signed word put at an address, low byte first
unfoldable pub with_word : (memory : List ℕ) → (address : ℕ) → ℤ → List ℕ
with_word memory address word =
    let bits = cast_unsigned w16 word in
    with_byte (with_byte memory address (bits % 0x100)) (address + 1) (bits / 0x100)

-- the memory with both words of a cell
unfoldable pub with_cell : (memory : List ℕ) → (address : ℕ) → (left right : ℤ) → List ℕ
with_cell memory address left right = with_word (with_word memory address left) ((address + 2) % 0x10000) right

-- the length of the buffer that a step uses: EDL is read at the first cell only
abbrev pub length_in_force : (edl : ℕ) → EchoState → ℕ
length_in_force edl s = if s.offset == 0 then echo_length edl else s.length

-- the echo at its next cell, by the length in force
unfoldable pub at_next_cell : EchoState → (edl : ℕ) → EchoState
at_next_cell s edl =
    let length = length_in_force edl s in
    record s { length = length; offset = if nat_le length (s.offset + 4) then 0 else s.offset + 4 }

-- the echo after a step
unfoldable pub next_echo : EchoState → EchoRegs → (memory : List ℕ) → EchoState
next_echo s regs memory = at_next_cell (after_reading s regs memory) regs.edl

-- the memory after a step, in which the voices send a frame to the echo
unfoldable pub echo_memory : EchoState → EchoRegs → (memory : List ℕ) → (sent : Frame) → List ℕ
echo_memory s regs memory sent =
    let echo = echo_heard s regs memory in
    if has_echo_writes regs.flg
    then with_cell memory (cell_address regs.esa s.offset) (feedback_word sent.left echo.left regs.efb) (feedback_word sent.right echo.right regs.efb)
    else memory
