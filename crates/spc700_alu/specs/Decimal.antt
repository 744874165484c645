-- The decimal adjustments of A: results and flags (Anomie's SPC700 Doc, the instruction list). A flag that isn't named stays.
use Rattle.std.specs.Prelude.{ℕ, ◌+◌, ◌-◌, ◌%◌, not, ◌||◌, nat_lt, if◌then◌else◌}
use Rattle.spc700_alu.specs.declared.Out8.{Out8}
use Rattle.spc700_alu.specs.Flags.{H, C, flag, with_flag}
use Rattle.spc700_alu.specs.Bytes.{nz_result}

-- DAA: with C set or A above 99h, 60h more, and C becomes 1; then with H set or the low digit of A above 9, 6 more. N and Z
unfoldable pub daa_of : (a psw : ℕ) → Out8
daa_of a psw =
    let tens = flag C psw || nat_lt 0x99 a in
    let adjusted = if tens then (a + 0x60) % 0x100 else a in
    let ones = flag H psw || nat_lt 9 (adjusted % 0x10) in
    nz_result (if ones then (adjusted + 6) % 0x100 else adjusted) (with_flag C tens psw)

-- DAS: with C clear or A above 99h, 60h less, and C becomes 0; then with H clear or the low digit of A above 9, 6 less. N and Z
unfoldable pub das_of : (a psw : ℕ) → Out8
das_of a psw =
    let tens = not (flag C psw) || nat_lt 0x99 a in
    let adjusted = if tens then (a + 0x100 - 0x60) % 0x100 else a in
    let ones = not (flag H psw) || nat_lt 9 (adjusted % 0x10) in
    nz_result (if ones then (adjusted + 0x100 - 6) % 0x100 else adjusted) (with_flag C (not tens) psw)
