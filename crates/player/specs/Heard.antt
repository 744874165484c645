-- That what was heard is near: laws of the marks that a player takes by itself.
use Rattle.std.specs.Prelude.{◌≡◌, ◌⊎◌, ℕ, suc, ◌+◌, ◌-◌, ◌%◌, ◌<◌, ◌≤◌, max, true, List}
use Rattle.cut_form.specs.Checkpoints.{Checkpoint, has_room_for_one, stands_at}
use Rattle.player.specs.OwnMarks.{is_own_mark, marks_after}

-- the last multiple of the spacing up to a sample
abbrev pub last_multiple : (spacing at : ℕ) → ℕ
last_multiple spacing at = at - at % spacing

-- for each mark that was due one stood, or there was room as it came, so that no other was given up for it
abbrev pub HasRoomForEach : (capacity : ℕ) → (memory : ℕ → List (List ℕ)) → (spacing from : ℕ) → List Checkpoint → (count : ℕ) → Type 0
HasRoomForEach capacity memory spacing from marks count =
    (k : ℕ) → k < count → is_own_mark spacing (from + suc k) ≡ true → let before = marks_after capacity memory spacing from marks k in
    (stands_at before (from + suc k) ≡ true) ⊎ (has_room_for_one capacity (memory (from + suc k)) before ≡ true)

-- then each mark that stood stands once so many frames are played
abbrev pub MarksStay : Type 0
MarksStay =
    (capacity : ℕ) (memory : ℕ → List (List ℕ)) (spacing from : ℕ) (marks : List Checkpoint) (count : ℕ) → HasRoomForEach capacity memory spacing from marks count
    → (sample : ℕ) → stands_at marks sample ≡ true → stands_at (marks_after capacity memory spacing from marks count) sample ≡ true

-- And each frame that was heard has a mark less than the spacing before it, where the first one had: a seek to it makes no more frames.
abbrev pub HeardIsNear : Type 0
HeardIsNear =
    (capacity : ℕ) (memory : ℕ → List (List ℕ)) (spacing from : ℕ) (marks : List Checkpoint) (count : ℕ) → HasRoomForEach capacity memory spacing from marks count
    → 0 < spacing → stands_at marks (last_multiple spacing from) ≡ true
    → (at : ℕ) → from ≤ at → at ≤ from + count
    → (stands_at (marks_after capacity memory spacing from marks count) (last_multiple spacing at) ≡ true) × (at < last_multiple spacing at + spacing)

-- The same of a play that begins at a mark or behind it, where that is no earlier than the last multiple: the nearest is then the later of the two.
abbrev pub HeardFromAMarkIsNear : Type 0
HeardFromAMarkIsNear =
    (capacity : ℕ) (memory : ℕ → List (List ℕ)) (spacing from : ℕ) (marks : List Checkpoint) (count : ℕ) → HasRoomForEach capacity memory spacing from marks count
    → 0 < spacing → (mark : ℕ) → stands_at marks mark ≡ true → last_multiple spacing from ≤ mark → mark ≤ from
    → (at : ℕ) → from ≤ at → at ≤ from + count → let nearest = max mark (last_multiple spacing at) in
    (stands_at (marks_after capacity memory spacing from marks count) nearest ≡ true) × (nearest ≤ at) × (at < nearest + spacing)
