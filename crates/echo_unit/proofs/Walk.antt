-- Where the echo stands after so many cells of a buffer that is longer than one cell: up to 64 of them are all apart.
use Rattle.std.proofs.Common.{◌≡◌, ◌≢◌, ℕ, zero, suc, ◌+◌, ◌*◌, ◌%◌, ◌<◌, ◌≤◌, ◌==◌, nat_le, Bool, true, false, if◌then◌else◌, ◌⊎◌, inl, inr, refl, ap, ◌∙◌, arith}
use Rattle.std.proofs.lemmas.Bool.Decides.{nat_tests}
use Rattle.echo_unit.specs.Window.{echo_length}
use Rattle.echo_unit.specs.Echo.{EchoState, length_in_force, at_next_cell}
use Rattle.echo_unit.specs.Cells.{after_cells, cell_after}
use Rattle.echo_unit.specs.declared.regs.EchoRegs.{EchoRegs}
use Rattle.echo_unit.proofs.Cells.{IsCell}
use Rattle.echo_unit.proofs.ApartFromCell.{IsApartFromCell, apart_from_other}

-- a place in a buffer of a length
record IsPlace (offset len : ℕ) : Type 0 where
  whole : offset % 4 ≡ 0
  units : len % 0x800 ≡ 0
  least : 0x800 ≤ len
  most : len ≤ 0x7800
  within : offset < len

is_place : (edl : ℕ) (s : EchoState) → IsCell s → 0 < edl % 16 → IsPlace s.offset (length_in_force edl s)
is_place edl s cell some = by (s.offset == 0) refl
  where
    by : (b : Bool) → (s.offset == 0) ≡ b → IsPlace s.offset (if b then echo_length edl else s.length)
    by true e =
        let start : s.offset ≡ 0 = grind (arith, nat_tests, e) in
        record { whole = cell.cell; units = omega arith; least = omega (arith, some); most = omega arith; within = omega (arith, start, some) }
    by false e =
        let further : s.offset ≢ 0 = grind (arith, nat_tests, e) in
        record {
          whole = cell.cell;
          units = cell.whole;
          least = omega (arith, further, cell.cell, cell.within, cell.whole);
          most = cell.most;
          within = omega (arith, further, cell.cell, cell.within);
        }

-- a step within the buffer, and one at its end
pub goes_on : (edl len offset : ℕ) (at : EchoState) → at.offset ≡ offset → length_in_force edl at ≡ len → offset + 4 < len
    → ((at_next_cell at edl).offset ≡ offset + 4) × (length_in_force edl (at_next_cell at edl) ≡ len)
unfolding at_next_cell
goes_on edl len offset at place force more =
    let short : nat_le len (offset + 4) ≡ false = grind (arith, nat_tests) in
    let test : nat_le (length_in_force edl at) (at.offset + 4) ≡ false = rw (force, place) short in
    let some : (offset + 4 == 0) ≡ false = grind (arith, nat_tests) in
    (rw test (ap (λ (n : ℕ). n + 4) place), rw (test, place, some) (rw place at force))

-- cells that end before the buffer does stand one after another
pub in_line : (edl cells : ℕ) (s : EchoState) → (0 < cells → s.offset + 4 * cells ≤ length_in_force edl s) → (j : ℕ) → j < cells
    → ((after_cells s edl j).offset ≡ s.offset + 4 * j) × (length_in_force edl (after_cells s edl j) ≡ length_in_force edl s)
in_line edl cells s room zero below = (omega arith, refl)
in_line edl cells s room (suc j) below =
    let before = in_line edl cells s room j (omega (arith, below)) in
    let more : s.offset + 4 * j + 4 < length_in_force edl s = let all = room (omega (arith, below)) in omega (arith, all, below) in
    let next = goes_on edl (length_in_force edl s) (s.offset + 4 * j) (after_cells s edl j) before.0 before.1 more in
    (next.0 ∙ omega arith, next.1)

turns : (edl len offset : ℕ) (at : EchoState) → at.offset ≡ offset → length_in_force edl at ≡ len → len ≤ offset + 4
    → ((at_next_cell at edl).offset ≡ 0) × (length_in_force edl (at_next_cell at edl) ≡ echo_length edl)
unfolding at_next_cell
turns edl len offset at place force end =
    let long : nat_le len (offset + 4) ≡ true = grind (arith, nat_tests) in
    let test : nat_le (length_in_force edl at) (at.offset + 4) ≡ true = rw (force, place) long in
    (rw test refl, rw test refl)

-- after so many cells: before the buffer's end, or after its start
record IsAhead (edl first len j : ℕ) (at : EchoState) : Type 0 where
  offset_is : at.offset ≡ first + 4 * j
  length_is : length_in_force edl at ≡ len
  within : first + 4 * j < len

record IsPast (edl first len j : ℕ) (at : EchoState) : Type 0 where
  offset_is : at.offset + len ≡ first + 4 * j
  length_is : length_in_force edl at ≡ echo_length edl

module _ (edl : ℕ) (s : EchoState) (cell : IsCell s) (some : 0 < edl % 16) where
  stands : (first len : ℕ) → first ≡ s.offset → len ≡ length_in_force edl s → IsPlace first len → (j : ℕ) → j ≤ 64
      → IsAhead edl first len j (after_cells s edl j) ⊎ IsPast edl first len j (after_cells s edl j)
  stands first len first_is len_is place zero few =
      inl record { offset_is = omega (arith, first_is); length_is = rw len_is refl; within = omega (arith, place.within) }
  stands first len first_is len_is place (suc j) few = by (stands first len first_is len_is place j (omega (arith, few)))
    where
      by : IsAhead edl first len j (after_cells s edl j) ⊎ IsPast edl first len j (after_cells s edl j)
          → IsAhead edl first len (suc j) (at_next_cell (after_cells s edl j) edl) ⊎ IsPast edl first len (suc j) (at_next_cell (after_cells s edl j) edl)
      by (inl at) = ends (nat_le len (first + 4 * j + 4)) refl
        where
          ends : (b : Bool) → nat_le len (first + 4 * j + 4) ≡ b
              → IsAhead edl first len (suc j) (at_next_cell (after_cells s edl j) edl) ⊎ IsPast edl first len (suc j) (at_next_cell (after_cells s edl j) edl)
          ends true e =
              let last : len ≤ first + 4 * j + 4 = grind (arith, nat_tests, e) in
              let next = turns edl len (first + 4 * j) (after_cells s edl j) at.offset_is at.length_is last in
              inr record { offset_is = omega (arith, next.0, last, at.within, place.whole, place.units); length_is = next.1 }
          ends false e =
              let more : first + 4 * j + 4 < len = grind (arith, nat_tests, e) in
              let next = goes_on edl len (first + 4 * j) (after_cells s edl j) at.offset_is at.length_is more in
              inl record { offset_is = omega (arith, next.0); length_is = next.1; within = omega (arith, more) }
      by (inr at) =
          let more : (after_cells s edl j).offset + 4 < echo_length edl = omega (arith, at.offset_is, place.within, few, some) in
          let next = goes_on edl (echo_length edl) (after_cells s edl j).offset (after_cells s edl j) refl at.length_is more in
          inr record { offset_is = omega (arith, next.0, at.offset_is); length_is = next.1 }

  at_cell : (j : ℕ) → j < 64 → ((after_cells s edl j).offset % 4 ≡ 0) × ((after_cells s edl j).offset < 0x7800)
  at_cell j few = by (length_in_force edl s) (is_place edl s cell some) (stands s.offset (length_in_force edl s) refl refl (is_place edl s cell some) j (omega (arith, few)))
    where
      by : (len : ℕ) → IsPlace s.offset len → IsAhead edl s.offset len j (after_cells s edl j) ⊎ IsPast edl s.offset len j (after_cells s edl j)
          → ((after_cells s edl j).offset % 4 ≡ 0) × ((after_cells s edl j).offset < 0x7800)
      by len place (inl at) = (omega (arith, at.offset_is, place.whole), omega (arith, at.offset_is, at.within, place.most))
      by len place (inr at) = (omega (arith, at.offset_is, place.whole, place.units), omega (arith, at.offset_is, place.within, few))

  others : (i j : ℕ) → i < j → j < 64 → (after_cells s edl i).offset ≢ (after_cells s edl j).offset
  others i j below few =
      let place = is_place edl s cell some in
      by (length_in_force edl s) place (stands s.offset (length_in_force edl s) refl refl place i (omega (arith, below, few)))
      (stands s.offset (length_in_force edl s) refl refl place j (omega (arith, few)))
    where
      by : (len : ℕ) → IsPlace s.offset len → IsAhead edl s.offset len i (after_cells s edl i) ⊎ IsPast edl s.offset len i (after_cells s edl i)
          → IsAhead edl s.offset len j (after_cells s edl j) ⊎ IsPast edl s.offset len j (after_cells s edl j)
          → (after_cells s edl i).offset ≢ (after_cells s edl j).offset
      by len place (inl a) (inl b) = λ e. omega (arith, e, a.offset_is, b.offset_is, below)
      by len place (inl a) (inr b) = λ e. omega (arith, e, a.offset_is, b.offset_is, below, few, place.least)
      by len place (inr a) (inl b) = λ e. omega (arith, e, a.offset_is, b.within, below)
      by len place (inr a) (inr b) = λ e. omega (arith, e, a.offset_is, b.offset_is, below)

-- a cell is off all that come before it
pub cells_apart : (regs : EchoRegs) (s : EchoState) → IsCell s → 0 < regs.edl % 16 → (i j byte : ℕ) → i < j → j < 64 → byte < 4
    → IsApartFromCell (cell_after s regs i) (cell_after s regs j + byte)
cells_apart regs s cell some i j byte below few small =
    let this = at_cell regs.edl s cell some i (omega (arith, below, few)) in
    let that = at_cell regs.edl s cell some j few in
    apart_from_other regs.esa (after_cells s regs.edl i).offset (after_cells s regs.edl j).offset byte this.0 that.0 this.1 that.1 (others regs.edl s cell some i j below few) small
