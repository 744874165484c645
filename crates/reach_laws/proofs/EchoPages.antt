-- A step of the echo reads and writes one cell, and each cell lies on a page of the echo's window.
use Rattle.std.proofs.Common.{◌≡◌, ◌≢◌, ℕ, ◌+◌, ◌*◌, ◌/◌, ◌%◌, ◌≤◌, max, List, length, ℤ, Bool, true, false, if◌then◌else◌, refl, sym, ap, ◌∙◌, arith}
use Rattle.std.specs.Int.{w16, cast_unsigned}
use Rattle.std.proofs.lemmas.Bool.{true≢false}
use Rattle.std.proofs.lemmas.List.{set_comm}
use Rattle.num_fix.specs.declared.Frame.{Frame}
use Rattle.aram_core.specs.Memory.{word_at, with_byte}
use Rattle.aram_core.specs.Pages.{page_of, has_page}
use Rattle.aram_core.proofs.Bytes.{byte_at-with_byte_other}
use Rattle.reach_map.specs.Reach.{window_pages}
use Rattle.echo_unit.specs.Window.{echo_window, echo_length}
use Rattle.echo_unit.specs.Echo.{EchoState, cell_address, halved_word, cell_pair, after_reading, next_echo, with_word, with_cell, echo_memory}
use Rattle.echo_unit.specs.Flg.{has_echo_writes}
use Rattle.echo_unit.specs.declared.regs.EchoRegs.{EchoRegs}
use Rattle.echo_unit.proofs.Cells.{IsCell}
use Rattle.echo_unit.proofs.ApartFromCell.{IsApartFromCell}
use Rattle.reach_laws.proofs.ChainPages.{bytes_have}

-- the page of the echo's cell is one of its window's
pub page_of_cell : (echo : EchoState) (esa edl length : ℕ) → IsCell echo → echo.length ≤ max length (echo_length edl)
    → has_page (window_pages (echo_window esa edl length)) (page_of (esa * 0x100 + echo.offset)) ≡ true
page_of_cell echo esa edl length cell most =
    bytes_have (esa * 0x100) (max (max length (echo_length edl)) 4) echo.offset (omega (arith, cell.within, most))

-- a cell lies on one page
apart_from_cell : (esa offset at : ℕ) → offset % 4 ≡ 0 → page_of at ≢ page_of (esa * 0x100 + offset) → IsApartFromCell (cell_address esa offset) at
apart_from_cell esa offset at four other = record {
  first = λ e. other (omega (arith, four, e));
  second = λ e. other (omega (arith, four, e));
  third = λ e. other (omega (arith, four, e));
  fourth = λ e. other (omega (arith, four, e));
}

-- an address whose page is none of the window's is that of no byte of the echo's cell
pub apart_from_window : (echo : EchoState) (esa edl length at : ℕ) → IsCell echo → echo.length ≤ max length (echo_length edl)
    → has_page (window_pages (echo_window esa edl length)) (page_of at) ≡ false → IsApartFromCell (cell_address esa echo.offset) at
apart_from_window echo esa edl length at cell most none =
    let pages : List ℕ = window_pages (echo_window esa edl length) in
    let there = page_of_cell echo esa edl length cell most in
    apart_from_cell esa echo.offset at cell.cell (λ e. true≢false (sym there ∙ ap (has_page pages) (sym e) ∙ none))

put_after : (memory : List ℕ) (address at value byte : ℕ) → at % 0x10000 ≢ address % 0x10000
    → with_byte (with_byte memory at value) address byte ≡ with_byte (with_byte memory address byte) at value
put_after memory address at value byte other = set_comm memory (at % 0x10000) (address % 0x10000) value byte other

-- a word can be put before a byte at another address or after it
put_after_word : (memory : List ℕ) (address at value : ℕ) (word : ℤ) → at % 0x10000 ≢ address % 0x10000 → at % 0x10000 ≢ (address + 1) % 0x10000
    → with_word (with_byte memory at value) address word ≡ with_byte (with_word memory address word) at value
unfolding with_word
put_after_word memory address at value word first second =
    let bits : ℕ = cast_unsigned w16 word in
    ap (λ (m : List ℕ). with_byte m (address + 1) (bits / 0x100)) (put_after memory address at value (bits % 0x100) first)
    ∙ put_after (with_byte memory address (bits % 0x100)) (address + 1) at value (bits / 0x100) second

put_after_cell : (memory : List ℕ) (address at value : ℕ) (left right : ℤ) → IsApartFromCell address at
    → with_cell (with_byte memory at value) address left right ≡ with_byte (with_cell memory address left right) at value
unfolding with_cell
put_after_cell memory address at value left right off =
    ap (λ (m : List ℕ). with_word m ((address + 2) % 0x10000) right) (put_after_word memory address at value left off.first off.second)
    ∙ put_after_word (with_word memory address left) ((address + 2) % 0x10000) at value right off.third off.fourth

-- a byte put off the cell changes nothing of what is read from it
pair_stays : (memory : List ℕ) (address at value : ℕ) → IsApartFromCell address at → cell_pair (with_byte memory at value) address ≡ cell_pair memory address
unfolding cell_pair halved_word word_at
pair_stays memory address at value off =
    rw (
      byte_at-with_byte_other memory at address value (λ e. off.first (sym e)),
      byte_at-with_byte_other memory at (address + 1) value (λ e. off.second (sym e)),
      byte_at-with_byte_other memory at ((address + 2) % 0x10000) value (λ e. off.third (sym e)),
      byte_at-with_byte_other memory at ((address + 2) % 0x10000 + 1) value (λ e. off.fourth (sym e)),
    ) refl

-- a byte put off the cell changes nothing of what is heard, of where the echo goes and of what it writes
pub after_reading_apart : (echo : EchoState) (regs : EchoRegs) (memory : List ℕ) (at value : ℕ) → IsApartFromCell (cell_address regs.esa echo.offset) at
    → after_reading echo regs (with_byte memory at value) ≡ after_reading echo regs memory
unfolding after_reading
after_reading_apart echo regs memory at value off = rw (pair_stays memory (cell_address regs.esa echo.offset) at value off) refl

pub next_echo_apart : (echo : EchoState) (regs : EchoRegs) (memory : List ℕ) (at value : ℕ) → IsApartFromCell (cell_address regs.esa echo.offset) at
    → next_echo echo regs (with_byte memory at value) ≡ next_echo echo regs memory
unfolding next_echo
next_echo_apart echo regs memory at value off = rw (after_reading_apart echo regs memory at value off) refl

pub echo_memory_apart : (echo : EchoState) (regs : EchoRegs) (memory : List ℕ) (sent : Frame) (at value : ℕ) → IsApartFromCell (cell_address regs.esa echo.offset) at
    → echo_memory echo regs (with_byte memory at value) sent ≡ with_byte (echo_memory echo regs memory sent) at value
unfolding echo_memory
echo_memory_apart echo regs memory sent at value off = rw (after_reading_apart echo regs memory at value off) (by (has_echo_writes regs.flg) _ _)
  where
    by : (b : Bool) (left right : ℤ)
        → (if b then with_cell (with_byte memory at value) (cell_address regs.esa echo.offset) left right else with_byte memory at value)
        ≡ with_byte (if b then with_cell memory (cell_address regs.esa echo.offset) left right else memory) at value
    by true left right = put_after_cell memory (cell_address regs.esa echo.offset) at value left right off
    by false left right = refl
