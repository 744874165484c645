-- A memory is a list of MEMORY_SIZE bytes, which are 65,536. Every address is taken modulo that.
use Rattle.std.specs.Prelude.{ℕ, ◌+◌, ◌*◌, ◌%◌, List, ◌++◌, take, drop, slice_index, slice_set}
use Rattle.aram_core.specs.declared.aram.TheConstants.{MEMORY_SIZE, PAGE_SIZE}

-- the byte at an address
abbrev pub byte_at : List ℕ → ℕ → ℕ
byte_at memory address = slice_index memory (address % MEMORY_SIZE)

-- the word at an address, low byte first; its high byte is at the next address
unfoldable pub word_at : List ℕ → ℕ → ℕ
word_at memory address = byte_at memory address + 256 * byte_at memory (address + 1)

-- the memory with one byte put at an address
abbrev pub with_byte : List ℕ → ℕ → ℕ → List ℕ
with_byte memory address byte = slice_set memory (address % MEMORY_SIZE) byte

-- the bytes of a page, which are 256
abbrev pub page_bytes : List ℕ → (page : ℕ) → List ℕ
page_bytes memory page = take PAGE_SIZE (drop (PAGE_SIZE * page) memory)

-- the memory with such bytes put into a page
abbrev pub with_page : List ℕ → (page : ℕ) → (bytes : List ℕ) → List ℕ
with_page memory page bytes = take (PAGE_SIZE * page) memory ++ bytes ++ drop (PAGE_SIZE * page + PAGE_SIZE) memory
