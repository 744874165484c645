-- A step of the echo writes one cell.
use Rattle.std.proofs.Common.{◌≡◌, ◌≢◌, ℕ, ◌+◌, ◌/◌, ◌%◌, ◌<◌, List, ℤ, Bool, true, false, if◌then◌else◌, refl, ◌∙◌, arith}
use Rattle.std.specs.Int.{w16, cast_unsigned}
use Rattle.num_fix.specs.declared.Frame.{Frame}
use Rattle.aram_core.specs.Memory.{byte_at, with_byte}
use Rattle.aram_core.proofs.Bytes.{byte_at-with_byte_other}
use Rattle.echo_unit.specs.Echo.{EchoState, cell_address, with_word, with_cell, echo_memory}
use Rattle.echo_unit.specs.Flg.{has_echo_writes}
use Rattle.echo_unit.specs.declared.regs.EchoRegs.{EchoRegs}

-- an address is that of no byte of a cell
pub record IsApartFromCell (address at : ℕ) : Type 0 where
  pub first : at % 0x10000 ≢ address % 0x10000
  pub second : at % 0x10000 ≢ (address + 1) % 0x10000
  pub third : at % 0x10000 ≢ (address + 2) % 0x10000 % 0x10000
  pub fourth : at % 0x10000 ≢ ((address + 2) % 0x10000 + 1) % 0x10000

-- the bytes of a cell are those of no other cell of a buffer
pub apart_from_other : (esa these those byte : ℕ) → these % 4 ≡ 0 → those % 4 ≡ 0 → these < 0x7800 → those < 0x7800 → these ≢ those → byte < 4
    → IsApartFromCell (cell_address esa these) (cell_address esa those + byte)
apart_from_other esa these those byte whole whole' most most' other small = record {
  first = λ e. omega (arith, e, whole, whole', most, most', other, small);
  second = λ e. omega (arith, e, whole, whole', most, most', other, small);
  third = λ e. omega (arith, e, whole, whole', most, most', other, small);
  fourth = λ e. omega (arith, e, whole, whole', most, most', other, small);
}

-- a word put at an address leaves a byte at another
word_elsewhere : (memory : List ℕ) (address at : ℕ) (word : ℤ) → at % 0x10000 ≢ address % 0x10000 → at % 0x10000 ≢ (address + 1) % 0x10000
    → byte_at (with_word memory address word) at ≡ byte_at memory at
unfolding with_word
word_elsewhere memory address at word first second =
    let bits : ℕ = cast_unsigned w16 word in
    byte_at-with_byte_other (with_byte memory address (bits % 0x100)) (address + 1) at (bits / 0x100) second
    ∙ byte_at-with_byte_other memory address at (bits % 0x100) first

cell_elsewhere : (memory : List ℕ) (address at : ℕ) (left right : ℤ) → IsApartFromCell address at → byte_at (with_cell memory address left right) at ≡ byte_at memory at
unfolding with_cell
cell_elsewhere memory address at left right off =
    word_elsewhere (with_word memory address left) ((address + 2) % 0x10000) at right off.third off.fourth ∙ word_elsewhere memory address at left off.first off.second

-- a step of the echo writes its cell alone
pub byte_at-echo_memory : (echo : EchoState) (regs : EchoRegs) (memory : List ℕ) (sent : Frame) (at : ℕ) → IsApartFromCell (cell_address regs.esa echo.offset) at
    → byte_at (echo_memory echo regs memory sent) at ≡ byte_at memory at
unfolding echo_memory
byte_at-echo_memory echo regs memory sent at off = by (has_echo_writes regs.flg) _ _
  where
    by : (b : Bool) (left right : ℤ) → byte_at (if b then with_cell memory (cell_address regs.esa echo.offset) left right else memory) at ≡ byte_at memory at
    by true left right = cell_elsewhere memory (cell_address regs.esa echo.offset) at left right off
    by false left right = refl

-- where echo writes are off it writes nothing
pub echo_memory_still : (echo : EchoState) (regs : EchoRegs) (memory : List ℕ) (sent : Frame) → has_echo_writes regs.flg ≡ false → echo_memory echo regs memory sent ≡ memory
unfolding echo_memory
echo_memory_still echo regs memory sent none = rw none refl
