-- What contracts see of a session on a server.
use Rattle.std.specs.Prelude.{◌≡◌, ℕ, ◌+◌, ◌^◌, ◌<◌, ◌≤◌, List, [], ◌∷◌}
use Rattle.num_fix.specs.declared.Frame.{Frame}
use Rattle.num_fix.specs.Limits.{max_frames}
use Rattle.chip_form.specs.ChipMeaning.{ChipMeaning}
use Rattle.chip_form.specs.ChipSaving.{ChipSaving}
use Rattle.cut_form.specs.declared.script.ScriptLine.{ScriptLine}
use Rattle.cut_form.specs.declared.script.Reply.{Reply}
use Rattle.cut_form.specs.CutBook.{after_play}
use Rattle.cut_form.specs.Session.{Session, after_line, played_cuts}
use Rattle.cut_form.specs.Slices.{slice_of, cut_frames}
use Rattle.cut_server.specs.ServerState.{book_of, slots_of}
use Rattle.cut_server.specs.Server.{ChipServer, pages_at, frames_to, KeepsTune}
use Rattle.cut_form.specs.GrowingFrames.{AreOfRun}

pub record SessionRunState (S V : Type 0) : Type 0 where
  pub server : ChipServer S V
  -- the frames of the session so far, those included that are still to be played of the last line
  pub frames : ℕ
  pub left : ℕ

-- the session once the last line is played
abbrev pub session_of : {S V : Type 0} → SessionRunState S V → Session
session_of run = record { book = after_play (book_of run.server) run.left; frames = run.frames }

-- the frames of the last line that are still to be played
abbrev pub left_to_play : {S V : Type 0} → ChipMeaning S → ChipSaving S V → SessionRunState S V → List Frame
left_to_play chip saving run = slice_of (frames_to chip saving run.server) (book_of run.server).position run.left

-- The last line is played, and the count of samples is far from its end.
pub record CanAnswer {S V : Type 0} (run : SessionRunState S V) : Type 0 where
  pub played : run.left ≡ 0
  pub counted : (book_of run.server).made + max_frames < 2 ^ 64

-- A line was answered: by the session's own words; the frames that it plays are still to be played.
pub record Answers {S V : Type 0} (chip : ChipMeaning S) (saving : ChipSaving S V) (line : ScriptLine)
    (old new : SessionRunState S V) (reply : Reply) : Type 0 where
  pub outcome : after_line (slots_of old.server) (pages_at chip saving old.server) (session_of old) line ≡ record { session = session_of new; reply = reply }
  pub frames : left_to_play chip saving new ≡ cut_frames (frames_to chip saving old.server) (played_cuts (reply ∷ []))
  pub tune : KeepsTune chip saving old.server new.server
  pub few : new.left ≤ max_frames

-- What a session that is run keeps. No contract that others see cites it.
pub record IsRunning {S V : Type 0} (chip : ChipMeaning S) (saving : ChipSaving S V) (server : ChipServer S V) (frames left : ℕ) : Type 0 where
  pub run : AreOfRun (frames_to chip saving server)
  pub few : frames ≤ max_frames
  pub within : (book_of server).position + left ≤ max_frames
