-- The echo stands at a cell of its buffer, and a step takes it from cell to cell.
use Rattle.std.proofs.Common.{◌≡◌, ℕ, ◌+◌, ◌*◌, ◌%◌, ◌<◌, ◌≤◌, max, List, Bool, true, false, ◌&&◌, ◌==◌, nat_le, nat_lt, if◌then◌else◌, refl, arith}
use Rattle.std.proofs.lemmas.Bool.{and_parts, and_from}
use Rattle.std.proofs.lemmas.Bool.Decides.{nat_tests}
use Rattle.echo_unit.specs.Window.{echo_length}
use Rattle.echo_unit.specs.Echo.{EchoState, is_at_cell, at_next_cell, next_echo, after_reading}
use Rattle.echo_unit.specs.declared.regs.EchoRegs.{EchoRegs}

-- the tests of the echo's place, as facts
pub record IsCell (echo : EchoState) : Type 0 where
  pub cell : echo.offset % 4 ≡ 0
  pub within : echo.offset < max echo.length 4
  pub whole : echo.length % 0x800 ≡ 0
  pub most : echo.length ≤ 15 * 0x800

pub cell_of : (echo : EchoState) → is_at_cell echo ≡ true → IsCell echo
cell_of echo h =
    let cell : Bool = echo.offset % 4 == 0 in
    let within : Bool = nat_lt echo.offset (max echo.length 4) in
    let whole : Bool = echo.length % 0x800 == 0 in
    let most : Bool = nat_le echo.length (15 * 0x800) in
    let p = and_parts (cell && within && whole) most h in
    let q = and_parts (cell && within) whole p.0 in
    let r = and_parts cell within q.0 in
    record { cell = grind (arith, nat_tests, r.0); within = grind (arith, nat_tests, r.1); whole = grind (arith, nat_tests, q.1); most = grind (arith, nat_tests, p.1) }

pub is_cell : (echo : EchoState) → IsCell echo → is_at_cell echo ≡ true
is_cell echo h =
    let cell : (echo.offset % 4 == 0) ≡ true = grind (arith, nat_tests, h.cell) in
    let within : nat_lt echo.offset (max echo.length 4) ≡ true = grind (arith, nat_tests, h.within) in
    let whole : (echo.length % 0x800 == 0) ≡ true = grind (arith, nat_tests, h.whole) in
    let most : nat_le echo.length (15 * 0x800) ≡ true = grind (arith, nat_tests, h.most) in
    and_from _ _ (and_from _ _ (and_from _ _ cell within) whole) most

next_length : (echo : EchoState) (edl : ℕ) → IsCell echo → ((at_next_cell echo edl).length % 0x800 ≡ 0) × ((at_next_cell echo edl).length ≤ 15 * 0x800)
unfolding at_next_cell
next_length echo edl h = by (echo.offset == 0)
  where
    by : (b : Bool) → ((if b then echo_length edl else echo.length) % 0x800 ≡ 0) × ((if b then echo_length edl else echo.length) ≤ 15 * 0x800)
    by true = (omega arith, omega arith)
    by false = (h.whole, h.most)

next_offset : (echo : EchoState) (edl : ℕ) → IsCell echo
    → ((at_next_cell echo edl).offset % 4 ≡ 0) × ((at_next_cell echo edl).offset < max (at_next_cell echo edl).length 4)
unfolding at_next_cell
next_offset echo edl h = by (if echo.offset == 0 then echo_length edl else echo.length)
  where
    wrapped : (length : ℕ) (b : Bool) → nat_le length (echo.offset + 4) ≡ b → ((if b then 0 else echo.offset + 4) % 4 ≡ 0) × ((if b then 0 else echo.offset + 4) < max length 4)
    wrapped length true e = (refl, grind arith)
    wrapped length false e = let below : echo.offset + 4 < length = grind (arith, nat_tests, e) in (omega (arith, h.cell), grind (arith, below))

    by : (length : ℕ) → ((if nat_le length (echo.offset + 4) then 0 else echo.offset + 4) % 4 ≡ 0) × ((if nat_le length (echo.offset + 4) then 0 else echo.offset + 4) < max length 4)
    by length = wrapped length (nat_le length (echo.offset + 4)) refl

-- from cell to cell
pub is_at_cell-next_cell : (echo : EchoState) (edl : ℕ) → is_at_cell echo ≡ true → is_at_cell (at_next_cell echo edl) ≡ true
is_at_cell-next_cell echo edl h =
    let at : IsCell echo = cell_of echo h in
    let offsets = next_offset echo edl at in
    let lengths = next_length echo edl at in
    is_cell (at_next_cell echo edl) record { cell = offsets.0; within = offsets.1; whole = lengths.0; most = lengths.1 }

-- a step takes the echo from cell to cell
pub is_at_cell-next_echo : (echo : EchoState) (regs : EchoRegs) (memory : List ℕ) → is_at_cell echo ≡ true → is_at_cell (next_echo echo regs memory) ≡ true
unfolding next_echo after_reading
is_at_cell-next_echo echo regs memory h = is_at_cell-next_cell (after_reading echo regs memory) regs.edl h
