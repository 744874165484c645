-- The row of kept samples that a voice reads in a span of samples.
use Rattle.std.specs.Prelude.{◌≡◌, ℕ, zero, suc, ◌+◌, ◌-◌, ◌*◌, ◌/◌, ◌%◌, ◌<◌, ◌==◌, Bool, ◌&&◌, List, ℤ, false, min, length, drop, if◌then◌else◌}
use Rattle.aram_core.specs.Memory.{byte_at}
use Rattle.brr_decode.specs.Header.{has_end, next_block}
use Rattle.brr_decode.specs.Kept.{with_group}
use Rattle.voice_unit.specs.Directory.{loop_word}
use Rattle.voice_unit.specs.Voice.{VoiceState, pitch_of, is_keyed}
use Rattle.voice_unit.specs.declared.interface.VoiceRegs.{VoiceRegs}
use Rattle.voice_unit.specs.declared.interface.VoiceIn.{VoiceIn}
use Rattle.voice_batch.specs.declared.row.Place.{Place}

-- one of the four groups of a block
pub record IsGroup (place : Place) : Type 0 where
  pub within : place.offset < 8
  pub odd : place.offset % 2 ≡ 1

-- the group that follows
abbrev pub next_place : (memory : List ℕ) → (loop_word : ℕ) → Place → Place
next_place memory loop_word at =
    if at.offset == 7 then record { block = next_block (byte_at memory at.block) at.block loop_word; offset = 1 }
    else record { block = at.block; offset = at.offset + 2 }

-- the group that stands so many after one
unfoldable pub place_after : (memory : List ℕ) → (loop_word : ℕ) → Place → (groups : ℕ) → Place
place_after memory loop_word first zero = first
place_after memory loop_word first (suc d) = next_place memory loop_word (place_after memory loop_word first d)

-- samples, and after them the kept samples of so many groups, from one on
unfoldable pub kept_row : (memory : List ℕ) → (loop_word : ℕ) → Place → (samples : List ℤ) → (groups : ℕ) → List ℤ
kept_row memory loop_word first samples zero = samples
kept_row memory loop_word first samples (suc d) =
    let at = place_after memory loop_word first d in
    with_group (kept_row memory loop_word first samples d) (byte_at memory at.block)
    (byte_at memory (at.block + at.offset)) (byte_at memory (at.block + at.offset + 1))

-- how many groups of a block are left from one of them on
abbrev pub groups_left : Place → ℕ
groups_left at = (9 - at.offset) / 2

-- the group that stands so many after one in the same block
abbrev pub further : Place → (groups : ℕ) → Place
further at groups = record { block = at.block; offset = at.offset + 2 * groups }

-- the last group of a block
abbrev pub last_of : (block : ℕ) → Place
last_of block = record { block = block; offset = 7 }

-- How far a sample stands in the row, in 4096ths of a kept sample, where the one before stands so far: a pitch further, but at most 7FFFh past the
-- groups that are read by then.
abbrev pub next_phase : (phase pitch : ℕ) → ℕ
next_phase phase pitch = 0x4000 * (phase / 0x4000) + min 0x7fff (phase % 0x4000 + pitch)

-- how far n samples stand in the row, and the one after them, from a position on: each by its pitch after the one before
pub record ArePhases (pitches : ℕ → ℕ) (n position : ℕ) (phases : ℕ → ℕ) : Type 0 where
  pub first : phases 0 ≡ position
  pub next : (j : ℕ) → j < n → phases (j + 1) ≡ next_phase (phases j) (pitches j)

-- how many groups a voice has read before sample j, where its samples stand so far
unfoldable pub groups_before : (phases : ℕ → ℕ) → (j : ℕ) → ℕ
groups_before phases zero = 0
groups_before phases (suc j) = phases j / 0x4000

-- a group is the last of a block that has its end bit
abbrev pub is_end : (memory : List ℕ) → Place → Bool
is_end memory at = at.offset == 7 && has_end (byte_at memory at.block)

-- sample j reads the group after so many others
abbrev pub is_read_in : (phases : ℕ → ℕ) → (group j : ℕ) → Bool
is_read_in phases group j = groups_before phases j == group && groups_before phases (j + 1) == group + 1

-- sample j reads a group, after so many others, that ends a block which has its end bit
abbrev pub ends_in : (memory : List ℕ) → Place → (phases : ℕ → ℕ) → (group j : ℕ) → Bool
ends_in memory at phases group j = is_read_in phases group j && is_end memory at

-- in sample j a voice reads the last group of a block that has its end bit
abbrev pub ended_in : (memory : List ℕ) → (loop_word : ℕ) → Place → (phases : ℕ → ℕ) → (j : ℕ) → Bool
ended_in memory loop_word first phases j =
    let group = groups_before phases j in
    ends_in memory (place_after memory loop_word first group) phases group j

-- a voice that plays on for n samples, which stand so far in its row: it has no delay and isn't keyed
pub record PlaysOn (r : VoiceRegs) (inputs : ℕ → VoiceIn) (dir n : ℕ) (phases : ℕ → ℕ) (voice : VoiceState) : Type 0 where
  pub delay : voice.delay ≡ 0
  pub twelve : length voice.samples ≡ 12
  pub position : voice.position < 0x8000
  pub stands : ArePhases (λ j. pitch_of r (inputs j)) n voice.position phases
  pub unkeyed : (j : ℕ) → j < n → is_keyed (inputs j) ≡ false
  pub same_dir : (j : ℕ) → j < n → (inputs j).dir ≡ dir

-- the group that a voice reads next
abbrev pub place_of : VoiceState → Place
place_of voice = record { block = voice.block; offset = voice.offset }

-- the row that such a voice reads, with so many groups
abbrev pub row_of : VoiceRegs → (dir : ℕ) → (memory : List ℕ) → VoiceState → (groups : ℕ) → List ℤ
row_of r dir memory voice d = kept_row memory (loop_word dir r.srcn memory) (place_of voice) voice.samples d

-- Where such a voice stands once it has read so many groups: its samples are the last twelve of the row, and its position is what is
-- left up to the last phase.
pub record StandsAt (r : VoiceRegs) (dir : ℕ) (memory : List ℕ) (before : VoiceState) (groups phase : ℕ) (now : VoiceState) : Type 0 where
  pub delay : now.delay ≡ 0
  pub last : now.samples ≡ drop (4 * groups) (row_of r dir memory before groups)
  pub place : place_of now ≡ place_after memory (loop_word dir r.srcn memory) (place_of before) groups
  pub position : now.position + 0x4000 * groups ≡ phase
  pub within : now.position < 0x8000
