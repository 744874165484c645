-- The arithmetic on bytes: results and flags (Anomie's SPC700 Doc, the instruction list). A flag that isn't named stays.
use Rattle.std.specs.Prelude.{ℕ, ◌+◌, ◌-◌, ◌*◌, ◌/◌, ◌%◌, Bool, not, ◌&&◌, nat_le, ◌==◌, bit_and, bit_or, bit_xor, if◌then◌else◌}
use Rattle.spc700_alu.specs.declared.Out8.{Out8}
use Rattle.spc700_alu.specs.declared.bytes.LogicKind.{LogicKind}
use Rattle.spc700_alu.specs.declared.bytes.LogicKind.TheVariants as Logic
use Rattle.spc700_alu.specs.declared.bytes.ShiftKind.{ShiftKind}
use Rattle.spc700_alu.specs.declared.bytes.ShiftKind.TheVariants as Shift
use Rattle.spc700_alu.specs.Flags.{V, H, C, differ, with_flag, carry_in, with_nz}

-- a byte, and the status with its N and Z
abbrev pub nz_result : (value psw : ℕ) → Out8
nz_result value psw = record { value = value; psw = with_nz value psw }

-- signed overflow of a sum: two numbers of one sign have a sum of the other sign, where numbers from `half` on are negative
abbrev pub overflows : (half a b value : ℕ) → Bool
overflows half a b value = not (differ (nat_le half a) (nat_le half b)) && differ (nat_le half a) (nat_le half value)

-- a + b + carry: C the carry; H the carry out of bit 3; V signed overflow; N and Z
unfoldable pub byte_sum : (a b carry psw : ℕ) → Out8
byte_sum a b carry psw =
    let value = (a + b + carry) % 0x100 in
    nz_result value
    (with_flag V (overflows 0x80 a b value)
    (with_flag H (nat_le 0x10 (a % 0x10 + b % 0x10 + carry))
    (with_flag C (nat_le 0x100 (a + b + carry)) psw)))

-- ADC: the first, the second and C
abbrev pub adc_of : (a b psw : ℕ) → Out8
adc_of a b psw = byte_sum a b (carry_in psw) psw

-- SBC: ADC with the complement of the second
abbrev pub sbc_of : (a b psw : ℕ) → Out8
sbc_of a b psw = byte_sum a (0xff - b) (carry_in psw) psw

-- the status after CMP: N and Z of a - b; C where a is at least b
unfoldable pub cmp_of : (a b psw : ℕ) → ℕ
cmp_of a b psw = with_nz ((a + 0x100 - b) % 0x100) (with_flag C (nat_le b a) psw)

abbrev pub logic_value : LogicKind → (a b : ℕ) → ℕ
logic_value Logic.Or a b = bit_or a b
logic_value Logic.And a b = bit_and a b
logic_value Logic.Eor a b = bit_xor a b

-- OR, AND and EOR: N and Z
unfoldable pub logic_of : LogicKind → (a b psw : ℕ) → Out8
logic_of kind a b psw = nz_result (logic_value kind a b) psw

-- the shifts: C the bit that went out; N and Z. ASL and LSR bring in 0, ROL and ROR bring in C
unfoldable pub shift_of : ShiftKind → (v psw : ℕ) → Out8
shift_of Shift.Asl v psw = nz_result (v * 2 % 0x100) (with_flag C (nat_le 0x80 v) psw)
shift_of Shift.Rol v psw = nz_result (v * 2 % 0x100 + carry_in psw) (with_flag C (nat_le 0x80 v) psw)
shift_of Shift.Lsr v psw = nz_result (v / 2) (with_flag C (v % 2 == 1) psw)
shift_of Shift.Ror v psw = nz_result (v / 2 + 0x80 * carry_in psw) (with_flag C (v % 2 == 1) psw)

-- INC, and DEC where `up` is false: N and Z
unfoldable pub bump_of : (v : ℕ) (up : Bool) (psw : ℕ) → Out8
bump_of v up psw = nz_result ((if up then v + 1 else v + 0x100 - 1) % 0x100) psw
