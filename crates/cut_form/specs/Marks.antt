-- A mark takes a checkpoint, and gives up older ones where it has to (own).
use Rattle.std.specs.Prelude.{ℕ, zero, suc, ◌+◌, ◌-◌, if◌then◌else◌, List, length}
use Rattle.cut_form.specs.declared.mark.Marked.{Marked}
use Rattle.cut_form.specs.declared.mark.Marked.TheVariants.{Kept, Taken, NoPages}
use Rattle.cut_form.specs.Checkpoints.{Checkpoint, with_checkpoint, without_entry, slots_needed, slots_free, stands_at, has_room_for_one}
use Rattle.cut_form.specs.CutBook.{CutBook}

-- the live checkpoints that remain once so many were given up
pub record Remaining : Type 0 where
  pub live : List Checkpoint
  pub gave : ℕ

-- The first live checkpoint is that of sample 0, which is never given up. The second is the one taken first of the others.
abbrev pub without_oldest : List Checkpoint → List Checkpoint
without_oldest live = without_entry live 1

-- so many are given up at most, one by one, until there is room
abbrev pub room_made : (most : ℕ) → (slots : ℕ) → (pages : List (List ℕ)) → Remaining → Remaining
room_made zero slots pages remaining = remaining
room_made (suc most) slots pages remaining =
    if has_room_for_one slots pages remaining.live then remaining
    else room_made most slots pages (record { live = without_oldest remaining.live; gave = remaining.gave + 1 })

-- the live checkpoints after a mark, and what came of it
pub record MarkOutcome : Type 0 where
  pub live : List Checkpoint
  pub marked : Marked

-- one is taken where there is room for it
abbrev pub mark_in : (slots : ℕ) → (pages : List (List ℕ)) → (sample : ℕ) → Remaining → MarkOutcome
mark_in slots pages sample remaining =
    if has_room_for_one slots pages remaining.live then record { live = with_checkpoint remaining.live sample pages; marked = Taken remaining.gave }
    else record { live = remaining.live; marked = NoPages remaining.gave (slots_needed remaining.live pages) (slots_free slots remaining.live) }

-- A mark keeps the checkpoint that stands there, or makes room and takes one. All but that of sample 0 may be given up.
abbrev pub mark_at : (slots : ℕ) → (pages : List (List ℕ)) → (sample : ℕ) → List Checkpoint → MarkOutcome
mark_at slots pages sample live =
    if stands_at live sample then record { live = live; marked = Kept }
    else mark_in slots pages sample (room_made (length live - 1) slots pages (record { live = live; gave = 0 }))

-- a mark at the position of a book
abbrev pub mark_here : (slots : ℕ) → (pages_at : ℕ → List (List ℕ)) → CutBook → MarkOutcome
mark_here slots pages_at book = mark_at slots (pages_at book.position) book.position book.live
