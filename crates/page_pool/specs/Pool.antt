-- A pool of pages, as contracts see it: a list of slots, each with the number of its owners and 256 bytes. A slot is free where
-- it has no owner; nobody sees its bytes.
use Rattle.std.specs.Prelude.{◌≡◌, ℕ, ◌+◌, ◌-◌, ◌<◌, Bool, ◌==◌, if◌then◌else◌, List, [], slice_index_or, slice_set}
use Rattle.std.specs.List.{count_by}
use Rattle.page_pool.specs.declared.slot.Slot.{Slot}
use Rattle.page_pool.specs.declared.pool.TheConstants.{MAX_PAGES}
use Rattle.page_pool.specs.declared.slot.TheConstants.{PAGE_SIZE}

-- the bytes of a page
abbrev pub page_size : ℕ
page_size = PAGE_SIZE

-- the most pages of a pool: their numbers have 16 bits
abbrev pub max_pages : ℕ
max_pages = MAX_PAGES

-- the most owners of a page that may get one more
abbrev pub max_owners : ℕ
max_owners = 1000000

-- a slot without an owner
abbrev pub free_slot : Slot
free_slot = record { owners = 0; bytes = [] }

-- a slot that holds bytes for so many owners
abbrev pub held_slot : (owners : ℕ) → (bytes : List ℕ) → Slot
held_slot owners bytes = record { owners = owners; bytes = bytes }

-- the slot of a number
abbrev pub slot_at : List Slot → (number : ℕ) → Slot
slot_at slots number = slice_index_or slots number free_slot

abbrev pub is_free : Slot → Bool
is_free slot = slot.owners == 0

-- how many slots are free
abbrev pub free_slots : List Slot → ℕ
free_slots slots = count_by is_free slots

-- the slot with one owner more, and with one fewer: without an owner it is free
abbrev pub with_owner : Slot → Slot
with_owner slot = record slot { owners = slot.owners + 1 }

abbrev pub without_owner : Slot → Slot
without_owner slot = if slot.owners == 1 then free_slot else record slot { owners = slot.owners - 1 }

-- the pool once bytes are put into a slot, once a slot has an owner more, and once an owner gives it back
abbrev pub after_take : List Slot → (page : ℕ) → (bytes : List ℕ) → List Slot
after_take slots page bytes = slice_set slots page (held_slot 1 bytes)

abbrev pub after_share : List Slot → (page : ℕ) → List Slot
after_share slots page = slice_set slots page (with_owner (slot_at slots page))

abbrev pub after_give : List Slot → (page : ℕ) → List Slot
after_give slots page = slice_set slots page (without_owner (slot_at slots page))

-- each slot that keeps an owner keeps its bytes
abbrev pub KeepsBytes : (old new : List Slot) → Type 0
KeepsBytes old new = (page : ℕ) → 0 < (slot_at old page).owners → 0 < (slot_at new page).owners → (slot_at new page).bytes ≡ (slot_at old page).bytes
