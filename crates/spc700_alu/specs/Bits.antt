-- The operations on one bit of a byte and the carry (Anomie's SPC700 Doc, the instruction list).
use Rattle.std.specs.Prelude.{ℕ, ◌^◌, Bool, true, false, not, ◌&&◌, ◌||◌}
use Rattle.spc700_alu.specs.declared.Out8.{Out8}
use Rattle.spc700_alu.specs.declared.bits.BitKind.{BitKind}
use Rattle.spc700_alu.specs.declared.bits.BitKind.TheVariants as Bit
use Rattle.spc700_alu.specs.Flags.{C, differ, flag, with_flag}

-- a new carry, and the byte as it was
abbrev carry_result : (byte psw : ℕ) → Bool → Out8
carry_result byte psw on = record { value = byte; psw = with_flag C on psw }

-- a byte with a new bit, and the status as it was
abbrev bit_result : (byte bit psw : ℕ) → Bool → Out8
bit_result byte bit psw on = record { value = with_flag (2 ^ bit) on byte; psw = psw }

-- OR1 to CLR1: the first six change C alone, the others the byte alone
unfoldable pub bitop_of : BitKind → (byte bit psw : ℕ) → Out8
bitop_of Bit.Or byte bit psw = carry_result byte psw (flag C psw || flag (2 ^ bit) byte)
bitop_of Bit.OrNot byte bit psw = carry_result byte psw (flag C psw || not (flag (2 ^ bit) byte))
bitop_of Bit.And byte bit psw = carry_result byte psw (flag C psw && flag (2 ^ bit) byte)
bitop_of Bit.AndNot byte bit psw = carry_result byte psw (flag C psw && not (flag (2 ^ bit) byte))
bitop_of Bit.Eor byte bit psw = carry_result byte psw (differ (flag C psw) (flag (2 ^ bit) byte))
bitop_of Bit.Load byte bit psw = carry_result byte psw (flag (2 ^ bit) byte)
bitop_of Bit.Store byte bit psw = bit_result byte bit psw (flag C psw)
bitop_of Bit.Not byte bit psw = bit_result byte bit psw (not (flag (2 ^ bit) byte))
bitop_of Bit.Set byte bit psw = bit_result byte bit psw true
bitop_of Bit.Clear byte bit psw = bit_result byte bit psw false
