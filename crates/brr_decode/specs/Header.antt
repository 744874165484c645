-- The header of a block, its first byte: the shift in bits 7 to 4, the filter in bits 3 and 2, the loop bit and the end bit.
use Rattle.std.specs.Prelude.{ℕ, ◌+◌, ◌/◌, ◌%◌, Bool, if◌then◌else◌}
use Rattle.num_fix.specs.Arithmetic.{has_bit}

abbrev pub shift_of : ℕ → ℕ
shift_of header = header / 0x10

abbrev pub filter_of : ℕ → ℕ
filter_of header = header / 4 % 4

abbrev pub has_loop : ℕ → Bool
has_loop header = has_bit header 1

abbrev pub has_end : ℕ → Bool
has_end header = has_bit header 0

-- the address of the block that follows: the loop word after an end, else 9 bytes on
abbrev pub next_block : (header block loop_word : ℕ) → ℕ
next_block header block loop_word = if has_end header then loop_word else (block + 9) % 0x10000
