-- Checkpoints, and the slots that they share (own). A checkpoint has a slot for each of the 256 pages of its memory. Where a
-- page holds the same bytes as that of the newest live checkpoint, it has the slot of that one, and else a slot of its own. So
-- the checkpoints that share the slot of a page stand side by side in the order in which they were taken, and it is enough to
-- say of each page whether its slot is that of the checkpoint taken before.
use Rattle.std.specs.Prelude.{ℕ, zero, suc, ◌-◌, Bool, false, not, ◌&&◌, ◌==◌, nat_le, nat_lt, if◌then◌else◌, List, [], ◌∷◌, ◌++◌, length, map, max}
use Rattle.std.specs.List.{sum_by, count_by, list_any, range_with_len}
use Rattle.std.specs.Str.{bytes_eq}
use Rattle.aram_core.specs.Memory.{page_bytes}
use Rattle.aram_core.specs.declared.aram.TheConstants.{PAGE_COUNT}
use Rattle.cut_form.specs.declared.cut.TheConstants.{MAX_CHECKPOINTS}

-- how many pages a memory has
abbrev pub page_count : ℕ
page_count = PAGE_COUNT

-- the fewest slots of a pool: the first checkpoint has one for each page
abbrev pub min_pages : ℕ
min_pages = page_count

-- the pages of a memory
unfoldable pub pages_of : (memory : List ℕ) → List (List ℕ)
pages_of memory = map (page_bytes memory) (range_with_len 0 page_count)

pub record Checkpoint : Type 0 where
  -- the number of samples made before it
  pub sample : ℕ
  -- the pages of its memory
  pub pages : List (List ℕ)
  -- of each page, whether it has the slot that it has in the live checkpoint taken before it
  pub shared : List Bool

-- the tests of the entries of two lists; an entry that has no other beside it fails
abbrev pub by_places : {A : Type 0} → (A → A → Bool) → List A → List A → List Bool
by_places test [] ys = []
by_places test (x ∷ xs) [] = false ∷ by_places test xs []
by_places test (x ∷ xs) (y ∷ ys) = test x y ∷ by_places test xs ys

-- Live checkpoints stand in the order in which they were taken: the newest is the last one, and the first is that of sample 0.

-- the most live checkpoints: 64
abbrev pub max_checkpoints : ℕ
max_checkpoints = MAX_CHECKPOINTS

-- which pages a checkpoint shares with the newest
abbrev pub shared_with_newest : List Checkpoint → (pages : List (List ℕ)) → List Bool
shared_with_newest [] pages = map (λ page. false) pages
shared_with_newest (newest ∷ []) pages = by_places bytes_eq pages newest.pages
shared_with_newest (older ∷ (next ∷ rest)) pages = shared_with_newest (next ∷ rest) pages

-- how many slots of its own a checkpoint has
abbrev pub own_slots : (shared : List Bool) → ℕ
own_slots shared = count_by not shared

-- how many slots a checkpoint with these pages needs
abbrev pub slots_needed : List Checkpoint → (pages : List (List ℕ)) → ℕ
slots_needed live pages = own_slots (shared_with_newest live pages)

-- how many slots are in use, and how many of so many are free
abbrev pub slots_used : List Checkpoint → ℕ
slots_used live = sum_by (λ checkpoint. own_slots checkpoint.shared) live

abbrev pub slots_free : (slots : ℕ) → List Checkpoint → ℕ
slots_free slots live = slots - slots_used live

-- whether there is room for one more with these pages: fewer than 64 are live, and there are slots enough
abbrev pub has_room_for_one : (slots : ℕ) → (pages : List (List ℕ)) → List Checkpoint → Bool
has_room_for_one slots pages live = nat_lt (length live) max_checkpoints && nat_le (slots_needed live pages) (slots_free slots live)

-- one more is taken
abbrev pub with_checkpoint : List Checkpoint → (sample : ℕ) → (pages : List (List ℕ)) → List Checkpoint
with_checkpoint live sample pages = live ++ record { sample = sample; pages = pages; shared = shared_with_newest live pages } ∷ []

-- One is dropped from before others: the next one then shares a slot with the one before where both did.
abbrev pub next_to_dropped : Checkpoint → List Checkpoint → List Checkpoint
next_to_dropped dropped [] = []
next_to_dropped dropped (next ∷ rest) = record next { shared = by_places (λ a b. a && b) next.shared dropped.shared } ∷ rest

-- the one at a place in the order is dropped, counted from 0
abbrev pub without_entry : List Checkpoint → (place : ℕ) → List Checkpoint
without_entry [] place = []
without_entry (checkpoint ∷ rest) zero = next_to_dropped checkpoint rest
without_entry (checkpoint ∷ rest) (suc place) = checkpoint ∷ without_entry rest place

-- the one at a sample is dropped
abbrev pub without_checkpoint : List Checkpoint → (sample : ℕ) → List Checkpoint
without_checkpoint [] sample = []
without_checkpoint (checkpoint ∷ rest) sample =
    if checkpoint.sample == sample then next_to_dropped checkpoint rest else checkpoint ∷ without_checkpoint rest sample

-- whether one stands at a sample
abbrev pub stands_at : List Checkpoint → (sample : ℕ) → Bool
stands_at live sample = list_any (λ checkpoint. checkpoint.sample == sample) live

-- the greatest of numbers that are at most another one, or 0
abbrev pub greatest_up_to : List ℕ → (at : ℕ) → ℕ
greatest_up_to [] at = 0
greatest_up_to (number ∷ rest) at = if nat_le number at then max number (greatest_up_to rest at) else greatest_up_to rest at

-- the sample of the last one at or before a sample
abbrev pub nearest : List Checkpoint → (at : ℕ) → ℕ
nearest live at = greatest_up_to (map (λ checkpoint. checkpoint.sample) live) at
