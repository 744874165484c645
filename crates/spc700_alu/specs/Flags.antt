-- The status byte PSW (Anomie's SPC700 Doc, the processor's flags) as a byte with named bits.
use Rattle.std.specs.Prelude.{◌≡◌, ℕ, ◌-◌, Bool, true, false, not, nat_le, ◌==◌, bit_and, bit_or, if◌then◌else◌}

-- the masks of the flags: negative, overflow, direct page, break, half carry, interrupt, zero, carry
abbrev pub N : ℕ
N = 0x80

abbrev pub V : ℕ
V = 0x40

abbrev pub P : ℕ
P = 0x20

abbrev pub B : ℕ
B = 0x10

abbrev pub H : ℕ
H = 0x08

abbrev pub I : ℕ
I = 0x04

abbrev pub Z : ℕ
Z = 0x02

abbrev pub C : ℕ
C = 0x01

-- whether the bit of a mask is set in a byte
abbrev pub flag : (mask byte : ℕ) → Bool
flag mask byte = not (bit_and byte mask == 0)

-- the byte with the bit of a mask set or cleared, and all other bits as they were
abbrev pub with_flag : (mask : ℕ) → Bool → (byte : ℕ) → ℕ
with_flag mask true byte = bit_or byte mask
with_flag mask false byte = bit_and byte (0xff - mask)

-- whether two tests give different answers
abbrev pub differ : Bool → Bool → Bool
differ true y = not y
differ false y = y

-- the carry as a number
abbrev pub carry_in : (psw : ℕ) → ℕ
carry_in psw = if flag C psw then 1 else 0

-- N is bit 7 of the byte, and Z says that it is 0
abbrev pub with_nz : (value psw : ℕ) → ℕ
with_nz value psw = with_flag N (nat_le 0x80 value) (with_flag Z (value == 0) psw)

-- N is bit 15 of the word, and Z says that it is 0
abbrev pub with_nz16 : (value psw : ℕ) → ℕ
with_nz16 value psw = with_flag N (nat_le 0x8000 value) (with_flag Z (value == 0) psw)

-- the flags of a mask are the same in two status bytes
abbrev pub SameFlags : (mask old new : ℕ) → Type 0
SameFlags mask old new = bit_and new mask ≡ bit_and old mask
