-- The bits of the register FLG that the echo reads.
use Rattle.std.specs.Prelude.{ℕ, Bool, not}
use Rattle.num_fix.specs.Arithmetic.{has_bit}

-- the output is mute
abbrev pub is_muted : (flg : ℕ) → Bool
is_muted flg = has_bit flg 6

-- the echo writes to memory
abbrev pub has_echo_writes : (flg : ℕ) → Bool
has_echo_writes flg = not (has_bit flg 5)
