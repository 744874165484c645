-- Sets of pages. A page is 256 bytes of memory; page p holds the addresses whose high byte is p.
use Rattle.std.specs.Prelude.{ℕ, ◌+◌, ◌/◌, ◌%◌, List, map, Bool, not, ◌==◌}
use Rattle.std.specs.List.{range_with_len, list_any}
use Rattle.std.specs.Ordering.{nat_cmp}
use Rattle.std.specs.FinSet as set
use Rattle.aram_core.specs.declared.aram.TheConstants.{MEMORY_SIZE, PAGE_SIZE, PAGE_COUNT}

-- the page of an address
abbrev pub page_of : ℕ → ℕ
page_of address = address % MEMORY_SIZE / PAGE_SIZE

-- a list of page numbers has the page
abbrev pub has_page : (pages : List ℕ) → (page : ℕ) → Bool
has_page pages page = list_any (λ q. q == page) pages

-- a set of page numbers
abbrev pub Pages : Type 0
Pages = set.FinSet nat_cmp

-- so many pages from a first one on; page 0 follows page 255
abbrev pub pages_from : (first count : ℕ) → Pages
pages_from first count = set.from_list (map (λ i. (first + i) % PAGE_COUNT) (range_with_len 0 count))

-- the sets have a page in common
abbrev pub have_common_page : Pages → Pages → Bool
have_common_page these those = not (set.len (set.intersection these those) == 0)
