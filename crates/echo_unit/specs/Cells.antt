-- The cells that the echo goes through one after another.
use Rattle.std.specs.Prelude.{◌≡◌, ℕ, zero, suc, ◌+◌, ◌*◌, ◌%◌, ◌<◌, ◌≤◌, List, [], ◌∷◌, ◌++◌}
use Rattle.aram_core.specs.declared.aram.TheConstants.{PAGE_SIZE}
use Rattle.num_fix.specs.declared.Frame.{Frame}
use Rattle.echo_unit.specs.Echo.{EchoState, cell_address, cell_pair, with_cell, length_in_force, at_next_cell}
use Rattle.echo_unit.specs.declared.regs.EchoRegs.{EchoRegs}

-- the echo so many cells further, with the history that it had
abbrev pub after_cells : EchoState → (edl : ℕ) → (cells : ℕ) → EchoState
after_cells s edl zero = s
after_cells s edl (suc j) = at_next_cell (after_cells s edl j) edl

-- the address of the cell to which it comes after so many
abbrev pub cell_after : EchoState → EchoRegs → (cells : ℕ) → ℕ
cell_after s regs j = cell_address regs.esa (after_cells s regs.edl j).offset

-- the pairs of the history, and then those that a memory has in so many cells
abbrev pub pairs_read : EchoState → EchoRegs → (memory : List ℕ) → (cells : ℕ) → List Frame
pairs_read s regs memory zero = s.history
pairs_read s regs memory (suc j) = pairs_read s regs memory j ++ cell_pair memory (cell_after s regs j) ∷ []

-- a memory with so many cells put, from a row of words
abbrev pub with_cells : EchoState → EchoRegs → (words : ℕ → Frame) → (memory : List ℕ) → (cells : ℕ) → List ℕ
with_cells s regs words memory zero = memory
with_cells s regs words memory (suc j) = with_cell (with_cells s regs words memory j) (cell_after s regs j) (words j).left (words j).right

-- the next so many cells stand one after another in one page
pub record AreNeighbours (edl cells : ℕ) (s : EchoState) : Type 0 where
  pub in_page : s.offset % PAGE_SIZE + 4 * cells ≤ PAGE_SIZE
  pub in_buffer : (j : ℕ) → 0 < j → j < cells → s.offset + 4 * j < length_in_force edl s

-- the next so many cells stand one after another
abbrev pub StandInLine : (edl cells : ℕ) → EchoState → Type 0
StandInLine edl cells s = (j : ℕ) → j < cells → (after_cells s edl j).offset ≡ s.offset + 4 * j
