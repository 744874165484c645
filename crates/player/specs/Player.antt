-- What contracts see of a player. S is the type of its chip's states, V of what is saved of one.
use Rattle.std.specs.Prelude.{◌≡◌, ℕ, ◌+◌, ◌-◌, ◌≤◌, min, true, List, [], take, drop}
use Rattle.num_fix.specs.declared.Frame.{Frame}
use Rattle.chip_form.specs.ChipMeaning.{ChipMeaning}
use Rattle.chip_form.specs.ChipSaving.{ChipSaving}
use Rattle.chip_form.specs.Samples.{count_after}
use Rattle.lock_step.specs.Machine.{Machine}
use Rattle.render_core.specs.Fade.{faded_frames}
use Rattle.render_core.specs.MachineRun.{Whole}
use Rattle.render_core.specs.Whole.{with_chip}
use Rattle.spc_form.specs.Tags.{length_of}
use Rattle.spc_form.specs.declared.tags.Length.{Length}
use Rattle.cut_form.specs.Checkpoints.{Checkpoint, stands_at, with_checkpoint}
use Rattle.cut_form.specs.CutBook.{runs_from}
use Rattle.cut_form.specs.Marks.{MarkOutcome, mark_here}
use Rattle.cut_server.specs.Server.{ChipServer, opening, frames_to, pages_at, chip_at}
use Rattle.cut_server.specs.ServerState.{book_of, slots_of}
use Rattle.player.specs.OwnMarks.{marks_after}

-- the server of its cuts, the bytes of its file, the frames between two marks that it takes by itself, and the length at which its render ends
pub record PlayerState (S V : Type 0) : Type 0 where
  pub server : ChipServer S V
  pub file : List ℕ
  pub spacing : ℕ
  pub end : Length

-- the frames of the tune's run to so many samples
abbrev pub frames_of : {S V : Type 0} → ChipMeaning S → ChipSaving S V → PlayerState S V → (samples : ℕ) → List Frame
frames_of chip saving player = frames_to chip saving player.server

-- the 256 pages of the memory that the run has once so many samples are made
abbrev pub memory_of : {S V : Type 0} → ChipMeaning S → ChipSaving S V → PlayerState S V → (samples : ℕ) → List (List ℕ)
memory_of chip saving player = pages_at chip saving player.server

-- the chip of the run once so many samples are made, and the step of the processor is done that made the last of them
abbrev pub chip_of : {S V : Type 0} → ChipMeaning S → ChipSaving S V → PlayerState S V → (samples : ℕ) → S
chip_of chip saving player = chip_at chip saving player.server

-- the samples before the position
abbrev pub position_of : {S V : Type 0} → PlayerState S V → ℕ
position_of player = (book_of player.server).position

-- the chip at the position
abbrev pub chip_here : {S V : Type 0} → ChipMeaning S → ChipSaving S V → PlayerState S V → S
chip_here chip saving player = chip_of chip saving player (position_of player)

-- its marks in the order in which they were taken, first that of sample 0, and the pages that it has for all of them
abbrev pub marks_of : {S V : Type 0} → PlayerState S V → List Checkpoint
marks_of player = (book_of player.server).live

abbrev pub pool_capacity : {S V : Type 0} → PlayerState S V → ℕ
pool_capacity player = slots_of player.server

-- a mark at the position: the marks that it leaves, and what it answers
abbrev pub marking : {S V : Type 0} → ChipMeaning S → ChipSaving S V → PlayerState S V → MarkOutcome
marking chip saving player = mark_here (pool_capacity player) (memory_of chip saving player) (book_of player.server)

-- the marks once so many frames more are played
abbrev pub marks_played : {S V : Type 0} → ChipMeaning S → ChipSaving S V → PlayerState S V → (count : ℕ) → List Checkpoint
marks_played chip saving player count =
    marks_after (pool_capacity player) (memory_of chip saving player) player.spacing (position_of player) (marks_of player) count

-- the frames that its seeks and plays made, and those that a seek would make: from the position, or from the last mark up to it
abbrev pub made_of : {S V : Type 0} → PlayerState S V → ℕ
made_of player = (book_of player.server).made

abbrev pub frames_sought : {S V : Type 0} → PlayerState S V → (at : ℕ) → ℕ
frames_sought player at = at - runs_from (book_of player.server) at

-- where a seek that makes at most so many comes to
abbrev pub sought_some : {S V : Type 0} → PlayerState S V → (at most : ℕ) → ℕ
sought_some player at most = min at (runs_from (book_of player.server) at + most)

-- a seek made no more frames than lie between its goal and any mark up to it
abbrev pub SeekIsNear : {S V : Type 0} → (old new : PlayerState S V) → (at : ℕ) → Type 0
SeekIsNear old new at = (mark : ℕ) → stands_at (marks_of old) mark ≡ true → mark ≤ at → made_of new ≤ made_of old + (at - mark)

-- the frames of a render of the tune, which is as long as the end says and fades as it says, and so many of them from the position on
abbrev pub faded_run : {S V : Type 0} → ChipMeaning S → ChipSaving S V → PlayerState S V → List Frame
faded_run chip saving player = faded_frames (frames_of chip saving player player.end.frames) player.end.fade

abbrev pub faded_frames_played : {S V : Type 0} → ChipMeaning S → ChipSaving S V → PlayerState S V → (count : ℕ) → List Frame
faded_frames_played chip saving player count = take count (drop (position_of player) (faded_run chip saving player))

-- the machine at the opening of the tune, of which all that it plays is the run
abbrev pub opening_of : {S V : Type 0} → ChipMeaning S → ChipSaving S V → PlayerState S V → Whole (Machine S)
opening_of chip saving player = opening chip saving player.server

-- a player over a server of a file's cuts, which takes a mark by itself each so many frames; its render ends as the tags give
pub record IsOver {S V : Type 0} (server : ChipServer S V) (file : List ℕ) (spacing : ℕ) (player : PlayerState S V) : Type 0 where
  pub server_is : player.server ≡ server
  pub file_is : player.file ≡ file
  pub spacing_is : player.spacing ≡ spacing
  pub end_is : player.end ≡ length_of file

-- what each call but `set_end` and `restart` keeps of a player: its tune, its file, the pages that it has for marks, their spacing, and its end
pub record KeepsPlayer {S V : Type 0} (chip : ChipMeaning S) (saving : ChipSaving S V) (old new : PlayerState S V) : Type 0 where
  pub start : opening_of chip saving new ≡ opening_of chip saving old
  pub frames : frames_of chip saving new ≡ frames_of chip saving old
  pub memory : memory_of chip saving new ≡ memory_of chip saving old
  pub chips : chip_of chip saving new ≡ chip_of chip saving old
  pub file : new.file ≡ old.file
  pub capacity : pool_capacity new ≡ pool_capacity old
  pub spacing : new.spacing ≡ old.spacing
  pub end : new.end ≡ old.end

-- A player began its tune anew over another chip at the opening, of which this was saved: what is fixed of its chip stays, and all else of the
-- opening. It stands where it stood, has the mark of frame 0 alone, and made the frames from there.
pub record IsRestarted {S V : Type 0} (chip : ChipMeaning S) (saving : ChipSaving S V) (saved : V) (old new : PlayerState S V) : Type 0 where
  pub start : opening_of chip saving new ≡ (let before = opening_of chip saving old in with_chip before (saving.loaded before.1.chip saved))
  pub position : position_of new ≡ position_of old
  pub marks : marks_of new ≡ with_checkpoint [] 0 (memory_of chip saving new 0)
  pub made : made_of new ≡ count_after (made_of old) (position_of old)
  pub file : new.file ≡ old.file
  pub capacity : pool_capacity new ≡ pool_capacity old
  pub spacing : new.spacing ≡ old.spacing
  pub end : new.end ≡ old.end
