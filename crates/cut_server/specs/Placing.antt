-- How the pages of a checkpoint are placed in the pool, and given back. No contract that others see cites these words.
use Rattle.std.specs.Prelude.{◌≡◌, ◌≢◌, ℕ, ◌+◌, ◌<◌, ◌≤◌, nat_eq, ◌==◌, List, [], ◌∷◌, length, take, slice_index, slice_index_or, Bool, true, false, Some}
use Rattle.std.specs.List.{count_by, slice_get}
use Rattle.std.specs.Str.{bytes_eq}
use Rattle.page_pool.specs.declared.slot.Slot.{Slot}
use Rattle.page_pool.specs.Pool.{free_slot, slot_at, free_slots, after_share, after_take, KeepsBytes}
use Rattle.cut_form.specs.Checkpoints.{by_places, own_slots}
use Rattle.cut_server.specs.Table.{pages_in, AreApart}

-- slots that have owners, and no more than so many
abbrev pub AreOwned : List Slot → (most : ℕ) → (slots : List ℕ) → Type 0
AreOwned pool most [] = Unit {0}
AreOwned pool most (slot ∷ slots) = (0 < (slot_at pool slot).owners) × ((slot_at pool slot).owners ≤ most) × AreOwned pool most slots

-- which pages hold what the slots of the newest hold
abbrev pub shared_slots : List Slot → (newest : List ℕ) → (pages : List (List ℕ)) → List Bool
shared_slots pool newest pages = by_places bytes_eq pages (pages_in pool newest)

-- the slot at a page is that of the newest, which has one owner more
abbrev pub SharesSlot : (old new : List Slot) → (newest : List ℕ) → (page slot : ℕ) → Type 0
SharesSlot old new newest page slot = (slot ≡ slice_index newest page) × (page < length newest) × (new ≡ after_share old slot)

-- the slot was free, and holds these bytes
abbrev pub TakesSlot : (old new : List Slot) → (bytes : List ℕ) → (slot : ℕ) → Type 0
TakesSlot old new bytes slot = (slot < length old) × (slot_at old slot ≡ free_slot) × (new ≡ after_take old slot bytes)

-- A page was placed: in the slot of the newest, which has one owner more, or in a free one.
pub record IsPlaced (old new : List Slot) (newest : List ℕ) (pages : List (List ℕ)) (page slot : ℕ) : Type 0 where
  pub shared : slice_get (shared_slots old newest pages) page ≡ Some true → SharesSlot old new newest page slot
  pub taken : slice_get (shared_slots old newest pages) page ≡ Some false → TakesSlot old new (slice_index_or pages page []) slot

-- a page has another slot than that of the newest
abbrev pub HasOtherSlot : (slots newest : List ℕ) → (page : ℕ) → Type 0
HasOtherSlot slots newest page = page < length newest → slice_index slots page ≢ slice_index newest page

-- The first pages were placed in these slots.
pub record ArePlaced (old new : List Slot) (newest : List ℕ) (pages : List (List ℕ)) (slots : List ℕ) : Type 0 where
  pub owners : (slot : ℕ) → (slot_at new slot).owners ≡ (slot_at old slot).owners + count_by (nat_eq slot) slots
  pub bytes : KeepsBytes old new
  pub holds : pages_in new slots ≡ take (length slots) pages
  pub shared : by_places nat_eq slots newest ≡ take (length slots) (shared_slots old newest pages)
  pub free : free_slots new + own_slots (take (length slots) (shared_slots old newest pages)) ≡ free_slots old
  pub size : length new ≡ length old
  -- no slot stands twice, and each that isn't that of the newest was free
  pub apart : AreApart slots
  pub fresh : (page : ℕ) → page < length slots → HasOtherSlot slots newest page → (slot_at old (slice_index slots page)).owners ≡ 0

-- the slot has one owner alone
abbrev pub has_one_owner : List Slot → (slot : ℕ) → Bool
has_one_owner pool slot = (slot_at pool slot).owners == 1

-- Each of these slots was given back once: those that had one owner are free.
pub record AreGiven (old new : List Slot) (slots : List ℕ) : Type 0 where
  pub owners : (slot : ℕ) → (slot_at new slot).owners + count_by (nat_eq slot) slots ≡ (slot_at old slot).owners
  pub bytes : KeepsBytes old new
  pub free : free_slots new ≡ free_slots old + count_by (has_one_owner old) slots
  pub size : length new ≡ length old
