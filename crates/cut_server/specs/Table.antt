-- The table of checkpoints.
use Rattle.std.specs.Prelude.{◌≡◌, ◌≢◌, ℕ, ◌+◌, ◌*◌, ◌<◌, ◌≤◌, nat_eq, List, [], ◌∷◌, length, map, slice_index}
use Rattle.std.specs.List.{flat_map, sum_by, count_by}
use Rattle.page_pool.specs.declared.slot.Slot.{Slot}
use Rattle.page_pool.specs.Pool.{slot_at, free_slots}
use Rattle.cut_server.specs.declared.table.LiveCheckpoint.{LiveCheckpoint}
use Rattle.cut_form.specs.Checkpoints.{Checkpoint, max_checkpoints, page_count, min_pages, by_places, slots_used}

-- A pool of pages, and the live checkpoints in the order in which they were taken: of each its sample, what was saved of the
-- machine, and the page of the pool for each page of its memory.
pub record TableState (S : Type 0) : Type 0 where
  pub pool : List Slot
  pub checkpoints : List (LiveCheckpoint S)

-- the bytes of slots, page by page, and joined
abbrev pub pages_in : List Slot → (slots : List ℕ) → List (List ℕ)
pages_in pool slots = map (λ slot. (slot_at pool slot).bytes) slots

abbrev pub memory_in : List Slot → (slots : List ℕ) → List ℕ
memory_in pool slots = flat_map (λ slot. (slot_at pool slot).bytes) slots

-- live checkpoints, as a book has them, that follow one with these slots
abbrev pub checkpoints_after : {S : Type 0} → List Slot → (before : List ℕ) → List (LiveCheckpoint S) → List Checkpoint
checkpoints_after pool before [] = []
checkpoints_after pool before (checkpoint ∷ checkpoints) =
    record { sample = checkpoint.sample; pages = pages_in pool checkpoint.pages; shared = by_places nat_eq checkpoint.pages before }
    ∷ checkpoints_after pool checkpoint.pages checkpoints

abbrev pub live_checkpoints : {S : Type 0} → TableState S → List Checkpoint
live_checkpoints table = checkpoints_after table.pool [] table.checkpoints

-- what was saved at a sample
pub record Saved (S : Type 0) : Type 0 where
  pub sample : ℕ
  pub state : S
  pub memory : List ℕ

abbrev pub saved_checkpoint : {S : Type 0} → List Slot → LiveCheckpoint S → Saved S
saved_checkpoint pool checkpoint = record { sample = checkpoint.sample; state = checkpoint.state; memory = memory_in pool checkpoint.pages }

abbrev pub saved_checkpoints : {S : Type 0} → List Slot → List (LiveCheckpoint S) → List (Saved S)
saved_checkpoints pool checkpoints = map (saved_checkpoint pool) checkpoints

abbrev pub saved_of : {S : Type 0} → TableState S → List (Saved S)
saved_of table = saved_checkpoints table.pool table.checkpoints

-- this was saved first
abbrev pub IsSavedFirst : {S : Type 0} → List (Saved S) → S → Type 0
IsSavedFirst [] state = ⊥
IsSavedFirst (first ∷ rest) state = state ≡ first.state

-- the samples of the live checkpoints
abbrev pub samples_of : {S : Type 0} → TableState S → List ℕ
samples_of table = map (λ checkpoint. checkpoint.sample) table.checkpoints

-- how often live checkpoints name a slot
abbrev pub times_named : {S : Type 0} → List (LiveCheckpoint S) → (slot : ℕ) → ℕ
times_named checkpoints slot = sum_by (λ checkpoint. count_by (nat_eq slot) checkpoint.pages) checkpoints

-- the most times that they name one
abbrev pub max_named : ℕ
max_named = min_pages * max_checkpoints

-- each checkpoint has all pages of its memory
abbrev pub AreWhole : {S : Type 0} → List (LiveCheckpoint S) → Type 0
AreWhole [] = Unit {0}
AreWhole (checkpoint ∷ checkpoints) = (length checkpoint.pages ≡ page_count) × AreWhole checkpoints

-- each slot has as many owners as there are live checkpoints that name it; a slot that none names is free
abbrev pub AreOwnersCounted : {S : Type 0} → TableState S → Type 0
AreOwnersCounted table = (slot : ℕ) → (slot_at table.pool slot).owners ≡ times_named table.checkpoints slot

-- no slot stands twice
abbrev pub AreApart : (slots : List ℕ) → Type 0
AreApart slots = (slot : ℕ) → count_by (nat_eq slot) slots ≤ 1

-- where the next one has another slot, no later one has that slot again
abbrev pub LeavesForGood : {S : Type 0} → (slots : List ℕ) → List (LiveCheckpoint S) → Type 0
LeavesForGood slots [] = Unit {0}
LeavesForGood slots (next ∷ rest) =
    (page : ℕ) → page < length slots → slice_index next.pages page ≢ slice_index slots page → times_named (next ∷ rest) (slice_index slots page) ≡ 0

-- the checkpoints that have a slot stand side by side, and have it at the same page
abbrev pub StandTogether : {S : Type 0} → List (LiveCheckpoint S) → Type 0
StandTogether [] = Unit {0}
StandTogether (checkpoint ∷ checkpoints) = AreApart checkpoint.pages × LeavesForGood checkpoint.pages checkpoints × StandTogether checkpoints

-- What a table keeps. No contract cites it.
pub record AreKeptIn {S : Type 0} (pool : List Slot) (checkpoints : List (LiveCheckpoint S)) : Type 0 where
  pub owners : AreOwnersCounted (record { pool = pool; checkpoints = checkpoints })
  pub whole : AreWhole checkpoints
  pub few : length checkpoints ≤ max_checkpoints
  pub runs : StandTogether checkpoints
  pub used : free_slots pool + slots_used (live_checkpoints (record { pool = pool; checkpoints = checkpoints })) ≡ length pool

-- the slots of the newest of live checkpoints that follow one with these slots
abbrev pub newest_from : {S : Type 0} → (before : List ℕ) → List (LiveCheckpoint S) → List ℕ
newest_from before [] = before
newest_from before (checkpoint ∷ checkpoints) = newest_from checkpoint.pages checkpoints
