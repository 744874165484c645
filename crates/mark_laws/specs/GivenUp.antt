-- What a mark gives up (own).
use Rattle.std.specs.Prelude.{◌≡◌, ℕ, zero, suc, ◌-◌, ◌<◌, ◌≤◌, true, false, List, ◌∷◌, length, map, drop}
use Rattle.cut_form.specs.declared.mark.Marked.{Marked}
use Rattle.cut_form.specs.declared.mark.Marked.TheVariants.{Kept, Taken, NoPages}
use Rattle.cut_form.specs.Checkpoints.{Checkpoint, with_checkpoint, slots_needed, slots_free, stands_at, has_room_for_one}
use Rattle.cut_form.specs.Marks.{without_oldest, MarkOutcome, mark_at}

-- the live checkpoints that are left once so many were given up
abbrev pub left_after : (count : ℕ) → List Checkpoint → List Checkpoint
left_after zero live = live
left_after (suc count) live = left_after count (without_oldest live)

-- their samples, in the order in which they were taken
abbrev pub samples_of : List Checkpoint → List ℕ
samples_of live = map (λ checkpoint. checkpoint.sample) live

-- the first one stays, and of the others those go first that were taken first
abbrev pub TakenFirstGoFirst : Type 0
TakenFirstGoFirst = (count : ℕ) (first : Checkpoint) (others : List Checkpoint)
    → samples_of (left_after count (first ∷ others)) ≡ first.sample ∷ drop count (samples_of others)

-- how many a mark gave up
abbrev pub gave_up : Marked → ℕ
gave_up Kept = 0
gave_up (Taken gave) = gave
gave_up (NoPages gave need free) = gave

-- a mark took a checkpoint after those that were left
abbrev pub Takes : (pages : List (List ℕ)) → (sample : ℕ) → (left : List Checkpoint) → (gave : ℕ) → MarkOutcome → Type 0
Takes pages sample left gave outcome = (outcome.marked ≡ Taken gave) × (outcome.live ≡ with_checkpoint left sample pages)

-- a mark took none: it shows what one more needs beside those that are left, and what is free
abbrev pub TakesNone : (slots : ℕ) → (pages : List (List ℕ)) → (left : List Checkpoint) → (gave : ℕ) → MarkOutcome → Type 0
TakesNone slots pages left gave outcome =
    (outcome.marked ≡ NoPages gave (slots_needed left pages) (slots_free slots left)) × (outcome.live ≡ left)

-- A mark where none stands gave up so many: no fewer leave room for one more, and the first one is not among them. Where they
-- leave room, one is taken; where they don't, all but the first are gone, and it shows what one more needs and what is free.
pub record LeavesRoom (slots : ℕ) (pages : List (List ℕ)) (sample : ℕ) (live : List Checkpoint) (gave : ℕ) (outcome : MarkOutcome) : Type 0 where
  pub fewest : (fewer : ℕ) → fewer < gave → has_room_for_one slots pages (left_after fewer live) ≡ false
  pub others : gave ≤ length live - 1
  pub taken : has_room_for_one slots pages (left_after gave live) ≡ true → Takes pages sample (left_after gave live) gave outcome
  pub all : has_room_for_one slots pages (left_after gave live) ≡ false → gave ≡ length live - 1
  pub known : has_room_for_one slots pages (left_after gave live) ≡ false → TakesNone slots pages (left_after gave live) gave outcome

abbrev pub AsFewAsLeaveRoom : Type 0
AsFewAsLeaveRoom = (slots : ℕ) (pages : List (List ℕ)) (sample : ℕ) (live : List Checkpoint) → stands_at live sample ≡ false
    → let outcome = mark_at slots pages sample live in LeavesRoom slots pages sample live (gave_up outcome.marked) outcome
