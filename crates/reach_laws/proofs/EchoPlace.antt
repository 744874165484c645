-- Where the echo stands after samples.
use Rattle.std.proofs.Common.{◌≡◌, ℕ, ◌≤◌, ◌==◌, max, List, Bool, true, false, if◌then◌else◌, arith}
use Rattle.echo_unit.specs.Window.{echo_length}
use Rattle.echo_unit.specs.Echo.{EchoState, after_reading, at_next_cell, next_echo}
use Rattle.echo_unit.specs.declared.regs.EchoRegs.{EchoRegs}

-- the echo's buffer gets no longer than it was or than EDL asks for
pub length-next_echo : (echo : EchoState) (regs : EchoRegs) (memory : List ℕ) (length edl : ℕ) → regs.edl ≡ edl → echo.length ≤ max length (echo_length edl)
    → (next_echo echo regs memory).length ≤ max length (echo_length edl)
unfolding next_echo after_reading at_next_cell
length-next_echo echo regs memory length edl same h = by (echo.offset == 0)
  where
    by : (b : Bool) → (if b then echo_length regs.edl else echo.length) ≤ max length (echo_length edl)
    by true = rw same (omega arith)
    by false = h
