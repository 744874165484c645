-- Cells that stand one after another in one page.
use Rattle.std.proofs.Common.{◌≡◌, ℕ, zero, suc, ◌+◌, ◌-◌, ◌*◌, ◌/◌, ◌%◌, ◌<◌, ◌≤◌, nat_le, List, ℤ, ◌++◌, length, take, drop, slice_set, slice_index, if◌then◌else◌, refl, ap, sym, ◌∙◌, append_assoc, length-append, arith}
use Rattle.std.specs.Int.{w16, cast_unsigned}
use Rattle.std.proofs.Math.Nat.{add-suc}
use Rattle.std.proofs.lemmas.List.{get_or-take, get_or-drop, drop-drop, length-set, take-append-drop, length-take-le, set-append_left, set-append_right}
use Rattle.num_fix.specs.declared.Frame.{Frame}
use Rattle.aram_core.specs.Memory.{byte_at, word_at, with_byte, page_bytes, with_page}
use Rattle.aram_core.specs.Pages.{page_of}
use Rattle.echo_unit.specs.Echo.{EchoState, cell_address, halved_word, cell_pair, with_word, with_cell, length_in_force, at_next_cell}
use Rattle.echo_unit.specs.Cells.{after_cells, AreNeighbours}
use Rattle.echo_unit.specs.Page.{halved_at, pair_in, with_word_in, with_pair_in}
use Rattle.echo_unit.proofs.Walk.{goes_on}

-- so many cells further, and then as many more
pub after_cells-add : (s : EchoState) (edl j i : ℕ) → after_cells s edl (j + i) ≡ after_cells (after_cells s edl j) edl i
after_cells-add s edl j zero = let none : j + 0 ≡ j = omega arith in rw none refl
after_cells-add s edl j (suc i) = rw add-suc (ap (λ (t : EchoState). at_next_cell t edl) (after_cells-add s edl j i))

-- the echo at one of the neighbours
record IsAlong (edl i : ℕ) (s : EchoState) : Type 0 where
  offset_is : (after_cells s edl i).offset ≡ s.offset + 4 * i
  length_is : length_in_force edl (after_cells s edl i) ≡ length_in_force edl s
  history_is : (after_cells s edl i).history ≡ s.history

along : (edl cells : ℕ) (s : EchoState) → AreNeighbours edl cells s → (i : ℕ) → i < cells → IsAlong edl i s
unfolding at_next_cell
along edl cells s near zero below = record { offset_is = omega arith; length_is = refl; history_is = refl }
along edl cells s near (suc i) below =
    let before = along edl cells s near i (omega (arith, below)) in
    let more : s.offset + 4 * i + 4 < length_in_force edl s = omega (arith, near.in_buffer (suc i) (omega arith) below) in
    let next = goes_on edl (length_in_force edl s) (s.offset + 4 * i) (after_cells s edl i) before.offset_is before.length_is more in
    record { offset_is = next.0 ∙ omega arith; length_is = next.1; history_is = before.history_is }

-- an echo by its parts
pub same_echo : (a b : EchoState) → a.offset ≡ b.offset → a.length ≡ b.length → a.history ≡ b.history → a ≡ b
same_echo a b offset long history =
    ap (λ (x : ℕ). record { offset = x; length = a.length; history = a.history }) offset
    ∙ ap (λ (x : ℕ). record { offset = b.offset; length = x; history = a.history }) long
    ∙ ap (λ (x : List Frame). record { offset = b.offset; length = b.length; history = x }) history

-- the echo after the last of them
pub skipped : (edl cells : ℕ) (s : EchoState) → 0 < cells → AreNeighbours edl cells s
    → record s { length = length_in_force edl s; offset = if nat_le (length_in_force edl s) (s.offset + 4 * cells) then 0 else s.offset + 4 * cells } ≡ after_cells s edl cells
unfolding at_next_cell
skipped edl zero s some near = absurd (omega (arith, some))
skipped edl (suc i) s some near =
    let last = along edl (suc i) s near i (omega arith) in
    let end : s.offset + 4 * suc i ≡ (after_cells s edl i).offset + 4 = omega (arith, last.offset_is) in
    let by_end = ap (λ (e : ℕ). if nat_le (length_in_force edl s) e then 0 else e) end in
    let by_length = ap (λ (l : ℕ). if nat_le l ((after_cells s edl i).offset + 4) then 0 else (after_cells s edl i).offset + 4) (sym last.length_is) in
    same_echo _ (after_cells s edl (suc i)) (by_end ∙ by_length) (sym last.length_is) (sym last.history_is)

-- a byte of a page
byte_in_page : (memory : List ℕ) (page address at : ℕ) → page < 256 → at < 256 → address % 0x10000 ≡ 256 * page + at → slice_index (page_bytes memory page) at ≡ byte_at memory address
byte_in_page memory page address at low inside is = rw is (get_or-take 256 (drop (256 * page) memory) at 0 inside ∙ get_or-drop (256 * page) memory at 0)

halved_in_page : (memory : List ℕ) (page address at : ℕ) → page < 256 → at + 2 ≤ 256 → address % 0x10000 ≡ 256 * page + at → halved_at (page_bytes memory page) at ≡ halved_word memory address
unfolding halved_at halved_word word_at
halved_in_page memory page address at low inside is =
    let first = byte_in_page memory page address at low (omega (arith, inside)) is in
    let second = byte_in_page memory page (address + 1) (at + 1) low (omega (arith, inside)) (omega (arith, is, low, inside)) in
    rw (first, second) refl

-- the pair of a cell of a page
pair_in_page : (memory : List ℕ) (page address at : ℕ) → page < 256 → at + 4 ≤ 256 → address % 0x10000 ≡ 256 * page + at → pair_in (page_bytes memory page) at ≡ cell_pair memory address
unfolding cell_pair
pair_in_page memory page address at low inside is =
    let left = halved_in_page memory page address at low (omega (arith, inside)) is in
    let right = halved_in_page memory page ((address + 2) % 0x10000) (at + 2) low (omega (arith, inside)) (omega (arith, is, low, inside)) in
    rw (left, right) refl

-- where a neighbour stands in the page
neighbour_at : (esa edl cells i : ℕ) (s : EchoState) → AreNeighbours edl cells s → i < cells
    → cell_address esa (after_cells s edl i).offset % 0x10000 ≡ 256 * page_of (cell_address esa s.offset) + (cell_address esa s.offset % 256 + 4 * i)
neighbour_at esa edl cells i s near below =
    let last = along edl cells s near i below in
    omega (arith, last.offset_is, near.in_page, below)

inside_page : (esa edl cells i : ℕ) (s : EchoState) → AreNeighbours edl cells s → i < cells → cell_address esa s.offset % 256 + 4 * i + 4 ≤ 256
inside_page esa edl cells i s near below = omega (arith, near.in_page, below)

page_below : (address : ℕ) → page_of address < 256
page_below address = omega arith

pub neighbour_pair : (memory : List ℕ) (esa edl cells i : ℕ) (s : EchoState) → AreNeighbours edl cells s → i < cells
    → pair_in (page_bytes memory (page_of (cell_address esa s.offset))) (cell_address esa s.offset % 256 + 4 * i) ≡ cell_pair memory (cell_address esa (after_cells s edl i).offset)
neighbour_pair memory esa edl cells i s near below =
    pair_in_page memory (page_of (cell_address esa s.offset)) (cell_address esa (after_cells s edl i).offset) (cell_address esa s.offset % 256 + 4 * i)
    (page_below (cell_address esa s.offset)) (inside_page esa edl cells i s near below) (neighbour_at esa edl cells i s near below)

-- a byte put into a page of a memory
byte_put : (memory bytes : List ℕ) (page address at value : ℕ) → length memory ≡ 0x10000 → length bytes ≡ 256 → page < 256 → at < 256 → address % 0x10000 ≡ 256 * page + at
    → with_byte (with_page memory page bytes) address value ≡ with_page memory page (slice_set bytes at value)
byte_put memory bytes page address at value long whole low inside is =
    let first : List ℕ = take (256 * page) memory in
    let rest : List ℕ = drop (256 * page + 256) memory in
    let front : length first ≡ 256 * page = length-take-le (256 * page) memory (omega (arith, long, low)) in
    let both : length (first ++ bytes) ≡ length first + length bytes = length-append first bytes in
    let place : 256 * page + at - 256 * page ≡ at = omega arith in
    let own = set-append_right first bytes (256 * page) (256 * page + at) value front (omega arith) in
    rw is (set-append_left (first ++ bytes) rest (256 * page + at) value (omega (arith, both, front, whole, inside)) ∙ ap (λ (l : List ℕ). l ++ rest) (rw place at own))

length-put : (bytes : List ℕ) (at : ℕ) (word : ℤ) → length (with_word_in bytes at word) ≡ length bytes
unfolding with_word_in
length-put bytes at word =
    let bits : ℕ = cast_unsigned w16 word in
    length-set (slice_set bytes at (bits % 0x100)) (at + 1) (bits / 0x100) ∙ length-set bytes at (bits % 0x100)

word_put : (memory bytes : List ℕ) (page address at : ℕ) (word : ℤ) → length memory ≡ 0x10000 → length bytes ≡ 256 → page < 256 → at + 2 ≤ 256 → address % 0x10000 ≡ 256 * page + at
    → with_word (with_page memory page bytes) address word ≡ with_page memory page (with_word_in bytes at word)
unfolding with_word with_word_in
word_put memory bytes page address at word long whole low inside is =
    let bits : ℕ = cast_unsigned w16 word in
    let first = byte_put memory bytes page address at (bits % 0x100) long whole low (omega (arith, inside)) is in
    let second = byte_put memory (slice_set bytes at (bits % 0x100)) page (address + 1) (at + 1) (bits / 0x100) long (length-set bytes at (bits % 0x100) ∙ whole) low (omega (arith, inside)) (omega (arith, is, low, inside)) in
    ap (λ (m : List ℕ). with_byte m (address + 1) (bits / 0x100)) first ∙ second

-- a pair put into a page of a memory
pair_put : (memory bytes : List ℕ) (page address at : ℕ) (left right : ℤ) → length memory ≡ 0x10000 → length bytes ≡ 256 → page < 256 → at + 4 ≤ 256 → address % 0x10000 ≡ 256 * page + at
    → with_cell (with_page memory page bytes) address left right ≡ with_page memory page (with_pair_in bytes at left right)
unfolding with_cell
pair_put memory bytes page address at left right long whole low inside is =
    let first = word_put memory bytes page address at left long whole low (omega (arith, inside)) is in
    let second = word_put memory (with_word_in bytes at left) page ((address + 2) % 0x10000) (at + 2) right long (length-put bytes at left ∙ whole) low (omega (arith, inside)) (omega (arith, is, low, inside)) in
    ap (λ (m : List ℕ). with_word m ((address + 2) % 0x10000) right) first ∙ second

pub neighbour_put : (memory bytes : List ℕ) (esa edl cells i : ℕ) (left right : ℤ) (s : EchoState) → length memory ≡ 0x10000 → length bytes ≡ 256 → AreNeighbours edl cells s → i < cells
    → with_cell (with_page memory (page_of (cell_address esa s.offset)) bytes) (cell_address esa (after_cells s edl i).offset) left right
    ≡ with_page memory (page_of (cell_address esa s.offset)) (with_pair_in bytes (cell_address esa s.offset % 256 + 4 * i) left right)
neighbour_put memory bytes esa edl cells i left right s long whole near below =
    pair_put memory bytes (page_of (cell_address esa s.offset)) (cell_address esa (after_cells s edl i).offset) (cell_address esa s.offset % 256 + 4 * i) left right
    long whole (page_below (cell_address esa s.offset)) (inside_page esa edl cells i s near below) (neighbour_at esa edl cells i s near below)

-- a page put back as it was
pub with_own_page : (memory : List ℕ) (page : ℕ) → with_page memory page (page_bytes memory page) ≡ memory
with_own_page memory page =
    let first : List ℕ = take (256 * page) memory in
    let own : List ℕ = take 256 (drop (256 * page) memory) in
    let rest = ap (λ (d : List ℕ). own ++ d) (sym (drop-drop 256 (256 * page) memory)) in
    append_assoc first own (drop (256 * page + 256) memory)
    ∙ ap (λ (d : List ℕ). first ++ d) (rest ∙ take-append-drop 256 (drop (256 * page) memory))
    ∙ take-append-drop (256 * page) memory
