-- Sets of pages with the pages of a list added.
use Rattle.std.specs.Prelude.{ℕ, ◌+◌, ◌*◌, List, map}
use Rattle.std.specs.List.{range_with_len}
use Rattle.std.specs.FinSet as set
use Rattle.aram_core.specs.Pages.{Pages, page_of}
use Rattle.aram_core.specs.declared.aram.TheConstants.{PAGE_SIZE}

-- the pages of so many bytes that stand a page apart
abbrev pub pages_of_steps : (start count : ℕ) → List ℕ
pages_of_steps start count = map (λ i. page_of (start + PAGE_SIZE * i)) (range_with_len 0 count)

-- a set and the pages of a list
unfoldable pub with_pages : Pages → List ℕ → Pages
with_pages pages more = set.union pages (set.from_list more)
