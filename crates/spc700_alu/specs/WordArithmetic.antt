-- The arithmetic on words: results and flags (Anomie's SPC700 Doc, the instruction list). A flag that isn't named stays.
-- A word in YA has Y as its high byte and A as its low byte.
use Rattle.std.specs.Prelude.{ℕ, ◌+◌, ◌-◌, ◌*◌, ◌/◌, ◌%◌, Bool, nat_le, nat_lt, if◌then◌else◌}
use Rattle.spc700_alu.specs.declared.Out16.{Out16}
use Rattle.spc700_alu.specs.Flags.{V, H, C, with_flag, with_nz, with_nz16}
use Rattle.spc700_alu.specs.Bytes.{overflows}

-- a + b + carry: C the carry; H the carry out of bit 11; V signed overflow; N and Z, all on 16 bits
unfoldable pub word_sum : (a b carry psw : ℕ) → Out16
word_sum a b carry psw =
    let value = (a + b + carry) % 0x10000 in
    record {
      value = value;
      psw = with_nz16 value
          (with_flag V (overflows 0x8000 a b value)
          (with_flag H (nat_le 0x1000 (a % 0x1000 + b % 0x1000 + carry))
          (with_flag C (nat_le 0x10000 (a + b + carry)) psw)));
    }

-- ADDW: without C
abbrev pub addw_of : (ya w psw : ℕ) → Out16
addw_of ya w psw = word_sum ya w 0 psw

-- SUBW: the complement of the second, and 1
abbrev pub subw_of : (ya w psw : ℕ) → Out16
subw_of ya w psw = word_sum ya (0xffff - w) 1 psw

-- the status after CMPW: N and Z of ya - w on 16 bits; C where ya is at least w
unfoldable pub cmpw_of : (ya w psw : ℕ) → ℕ
cmpw_of ya w psw = with_nz16 ((ya + 0x10000 - w) % 0x10000) (with_flag C (nat_le w ya) psw)

-- MUL: N and Z of the new Y
unfoldable pub mul_of : (y a psw : ℕ) → Out16
mul_of y a psw = record { value = y * a; psw = with_nz (y * a / 0x100) psw }

-- The quotient of DIV fits in nine bits where Y is below 2 X. Else A counts down from FFh by what is above 512 X, in steps of 256 - X.
abbrev pub quotient_fits_nine_bits : (ya x : ℕ) → Bool
quotient_fits_nine_bits ya x = nat_lt (ya / 0x100) (2 * x)

-- the new A of DIV
abbrev pub div_a : (ya x : ℕ) → ℕ
div_a ya x = if quotient_fits_nine_bits ya x then ya / x % 0x100 else 0xff - (ya - 0x200 * x) / (0x100 - x)

-- the new Y of DIV
abbrev pub div_y : (ya x : ℕ) → ℕ
div_y ya x = if quotient_fits_nine_bits ya x then ya % x else x + (ya - 0x200 * x) % (0x100 - x)

-- DIV: H where the low digit of X is at most that of Y; V where X is at most Y, both of the old values; N and Z of the new A
unfoldable pub div_of : (ya x psw : ℕ) → Out16
div_of ya x psw = record {
  value = 0x100 * div_y ya x + div_a ya x;
  psw = with_nz (div_a ya x)
      (with_flag V (nat_le x (ya / 0x100))
      (with_flag H (nat_le (x % 0x10) (ya / 0x100 % 0x10)) psw));
}
