-- Arithmetic of sound hardware, on whole numbers of any size. A signed number is a ℤ; a byte, a register or an address is a ℕ.
use Rattle.std.specs.Prelude.{ℕ, ◌/◌, ◌%◌, ◌^◌, Bool, ◌==◌, ℤ, pos, ◌-ℤ◌, ◌*ℤ◌, neg_ℤ, nat_lt, unsigned_abs, if◌then◌else◌}
use Rattle.std.specs.Int.{w16, int_max, int_min, int_rem_euclid, int_shr, cast_signed}

-- z limited to what 16 bits hold with a sign: -32,768 to 32,767
unfoldable pub clamp16 : ℤ → ℤ
clamp16 z = int_max (neg_ℤ (pos 32768)) (int_min z (pos 32767))

-- the low 16 bits of z, read as a signed number
unfoldable pub wrap16 : ℤ → ℤ
wrap16 z = cast_signed w16 (unsigned_abs (int_rem_euclid z (pos 65536)))

-- z divided by 2 to the n, rounded down
unfoldable pub floor_shift : ℤ → ℕ → ℤ
floor_shift z n = int_shr z n

-- a product divided by 2 to the n, rounded down
unfoldable pub scaled : ℤ → ℤ → ℕ → ℤ
scaled x y n = floor_shift (x *ℤ y) n

-- z with bit 0 cleared
unfoldable pub clear_bit0 : ℤ → ℤ
clear_bit0 z = pos 2 *ℤ floor_shift z 1

-- the low digit of a byte (4 bits), read as a signed number: -8 to 7
unfoldable pub sign4 : ℕ → ℤ
sign4 byte = pos (byte % 16) -ℤ (if nat_lt (byte % 16) 8 then pos 0 else pos 16)

-- a byte read as a signed number: -128 to 127
unfoldable pub sign8 : ℕ → ℤ
sign8 byte = pos (byte % 256) -ℤ (if nat_lt (byte % 256) 128 then pos 0 else pos 256)

-- the high byte of the low 16 bits of z
unfoldable pub high_byte : ℤ → ℕ
high_byte z = unsigned_abs (int_rem_euclid (floor_shift z 8) (pos 256))

-- bit i of a byte is set
abbrev pub has_bit : ℕ → ℕ → Bool
has_bit byte i = byte / 2 ^ i % 2 == 1
