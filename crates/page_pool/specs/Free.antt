-- The free slots, and how they are linked: each that was made names the next one in its own bytes.
use Rattle.std.specs.Prelude.{◌≡◌, ◌≢◌, ℕ, zero, suc, ◌+◌, ◌*◌, ◌<◌, ◌≤◌, if◌then◌else◌, List, [], ◌∷◌, ◌++◌, length, map, replicate, slice_index}
use Rattle.page_pool.specs.declared.slot.Slot.{Slot}
use Rattle.page_pool.specs.Pool.{max_pages, free_slot, slot_at, is_free, free_slots}

-- what contracts see of a slot
abbrev pub seen_slot : Slot → Slot
seen_slot slot = if is_free slot then free_slot else slot

abbrev pub seen_slots : List Slot → List Slot
seen_slots slots = map seen_slot slots

-- and of a pool: the slots that were made, and behind them those that nobody took yet
abbrev pub seen_pool : (made : List Slot) → (unmade : ℕ) → List Slot
seen_pool made unmade = seen_slots made ++ replicate unmade free_slot

-- the number that a free slot names: its first two bytes, low byte first
unfoldable pub next_of : Slot → ℕ
next_of slot = slice_index slot.bytes 0 + 256 * slice_index slot.bytes 1

-- the numbers of n slots: the first one, and after each the one that it names
abbrev pub chain : List Slot → (first n : ℕ) → List ℕ
chain slots first zero = []
chain slots first (suc n) = first ∷ chain slots (next_of (slot_at slots first)) n

-- a number isn't among others
abbrev pub IsApart : ℕ → List ℕ → Type 0
IsApart x [] = Unit {0}
IsApart x (y ∷ ys) = (x ≢ y) × IsApart x ys

-- the numbers of n free slots, of which no two are the same, stand in a chain
abbrev pub IsChain : List Slot → (first n : ℕ) → Type 0
IsChain slots first zero = Unit {0}
IsChain slots first (suc n) =
    let next = next_of (slot_at slots first) in
    (first < length slots) × ((slot_at slots first).owners ≡ 0) × (IsApart first (chain slots next n) × IsChain slots next n)

-- all free ones of the slots that were made stand in one chain
pub record IsLinked (slots : List Slot) (first free : ℕ) : Type 0 where
  pub all : free ≡ free_slots slots
  pub chained : IsChain slots first free

-- what a pool keeps of its slots: the list of those that were made has room for the others
pub record IsPooled (made : List Slot) (unmade first free capacity : ℕ) : Type 0 where
  pub few : length made + unmade ≤ max_pages
  pub fits : length made + unmade ≤ capacity
  pub linked : IsLinked made first free
