-- What the next 64 samples of a chip can read and write, by pages (own).
use Rattle.std.specs.Prelude.{ℕ, zero, suc, ◌+◌, List, [], ◌∷◌, ◌++◌, map, flat_map, slice_index, Bool, ◌&&◌, if◌then◌else◌}
use Rattle.std.specs.List.{range_with_len}
use Rattle.std.specs.FinSet as set
use Rattle.aram_core.specs.Memory.{byte_at}
use Rattle.aram_core.specs.Pages.{page_of, have_common_page}
use Rattle.brr_decode.specs.Header.{next_block}
use Rattle.aram_core.specs.declared.window.Window.{Window}
use Rattle.reach_map.specs.declared.ChainStart.{ChainStart}
use Rattle.chip_form.specs.declared.pages.ReachPages.{ReachPages}

-- the pages of so many bytes from an address on
abbrev pub pages_of_bytes : (start count : ℕ) → List ℕ
pages_of_bytes start count = map (λ i. page_of (start + i)) (range_with_len 0 count)

-- So many blocks of a chain, from a first one on. The block that follows is 9 bytes on, or the loop word after an end.
abbrev pub chain : List ℕ → (loop_word count block : ℕ) → List ℕ
chain memory loop_word zero block = []
chain memory loop_word (suc count) block = block ∷ chain memory loop_word count (next_block (byte_at memory block) block loop_word)

-- entry i of a chain
unfoldable pub chain_entry : List ℕ → ChainStart → (i : ℕ) → ℕ
chain_entry memory start i = slice_index (chain memory start.loop_word (suc i) start.block) i

-- the pages of the 9 bytes of a block
abbrev pub block_pages : (block : ℕ) → List ℕ
block_pages block = pages_of_bytes block 9

-- the pages of a chain. In 64 samples a voice reads at most 64 groups of four samples, and so is in one of 18 blocks.
abbrev pub chain_pages : List ℕ → ChainStart → List ℕ
chain_pages memory start = flat_map block_pages (chain memory start.loop_word 18 start.block)

-- the pages of the four bytes of an entry of the directory
abbrev pub entry_pages : (entry : ℕ) → List ℕ
entry_pages entry = pages_of_bytes entry 4

-- the pages that voices read: those of directory entries and of chains
abbrev pub voice_pages : List ℕ → List ChainStart → (entries : List ℕ) → List ℕ
voice_pages memory starts entries = flat_map entry_pages entries ++ flat_map (chain_pages memory) starts

-- the pages of a window
abbrev pub window_pages : Window → List ℕ
window_pages window = pages_of_bytes window.start window.len

-- The reach of voices at the starts of chains, with their entries of the directory, and of an echo with its window. It is
-- entangled where the echo can write what a voice reads.
unfoldable pub reach : List ℕ → List ChainStart → (entries : List ℕ) → Window → (writes_on : Bool) → ReachPages
reach memory starts entries window writes_on =
    let voices = voice_pages memory starts entries in
    let echo = window_pages window in
    record {
      read_pages = set.from_list (voices ++ echo);
      write_pages = if writes_on then set.from_list echo else set.empty;
      entangled = writes_on && have_common_page (set.from_list voices) (set.from_list echo);
    }
