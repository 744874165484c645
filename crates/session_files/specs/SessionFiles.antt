-- What contracts see of a session that is turned into the bytes of a sound file and into a report, piece by piece, over any chip.
use Rattle.std.specs.Prelude.{◌≡◌, ℕ, ◌+◌, ◌*◌, ◌^◌, ◌≤◌, ◌<◌, ◌==◌, ◌&&◌, Bool, List, [], ◌++◌, length}
use Rattle.std.specs.List.{flat_map}
use Rattle.num_fix.specs.declared.Frame.{Frame}
use Rattle.num_fix.specs.Limits.{max_frames}
use Rattle.wav_form.specs.Wave.{frame_bytes}
use Rattle.chip_form.specs.ChipMeaning.{ChipMeaning}
use Rattle.chip_form.specs.ChipSaving.{ChipSaving}
use Rattle.cut_form.specs.declared.script.ScriptLine.{ScriptLine}
use Rattle.cut_form.specs.declared.script.Reply.{Reply}
use Rattle.cut_form.specs.Session.{opened_session, replies, played_cuts}
use Rattle.cut_form.specs.Slices.{cut_frames}
use Rattle.cut_server.specs.ServerState.{slots_of}
use Rattle.cut_server.specs.Server.{ChipServer, pages_at, frames_to}
use Rattle.command_runner.specs.Stream.{Both}
use Rattle.session_files.specs.SessionRun.{SessionRunState, session_of, left_to_play}
use Rattle.session_files.specs.Replies.{report_on, max_reply_bytes}

pub record SessionFilesState (S V : Type 0) : Type 0 where
  pub run : SessionRunState S V
  -- the lines that are still to be answered
  pub lines : List ScriptLine
  -- the replies so far
  pub known : List ℕ
  -- the piece that was made last
  pub wave : List ℕ

-- the replies to a script that a server answers from its opening on
abbrev pub replies_of_server : {S V : Type 0} → ChipMeaning S → ChipSaving S V → ChipServer S V → List ScriptLine → List Reply
replies_of_server chip saving server script =
    replies (slots_of server) (pages_at chip saving server) (opened_session (pages_at chip saving server)) script

-- the replies to come
abbrev pub replies_to_come : {S V : Type 0} → ChipMeaning S → ChipSaving S V → SessionFilesState S V → List Reply
replies_to_come chip saving files = replies (slots_of files.run.server) (pages_at chip saving files.run.server) (session_of files.run) files.lines

-- the frames to come: those of the last line, and those that the replies to come show
abbrev pub frames_left : {S V : Type 0} → ChipMeaning S → ChipSaving S V → SessionFilesState S V → List Frame
frames_left chip saving files =
    left_to_play chip saving files.run ++ cut_frames (frames_to chip saving files.run.server) (played_cuts (replies_to_come chip saving files))

abbrev pub held_of : {S V : Type 0} → SessionFilesState S V → Both
held_of files = record { wave = files.wave; trace = [] }

-- what is still to come after the piece
abbrev pub to_come_of : {S V : Type 0} → ChipMeaning S → ChipSaving S V → SessionFilesState S V → Both
to_come_of chip saving files = record { wave = flat_map frame_bytes (frames_left chip saving files); trace = [] }

-- the report on all of it
abbrev pub report_of : {S V : Type 0} → ChipMeaning S → ChipSaving S V → SessionFilesState S V → List ℕ
report_of chip saving files = files.known ++ report_on (replies_to_come chip saving files)

-- the frames of the last line and the lines that are left
abbrev pub work_of : {S V : Type 0} → SessionFilesState S V → ℕ
work_of files = files.run.left + (max_frames + 1) * length files.lines

-- whether all lines are answered and played
abbrev pub is_finished : {S V : Type 0} → SessionFilesState S V → Bool
is_finished files = files.run.left == 0 && length files.lines == 0

-- What is kept: there is room for the replies to come, and the count of samples doesn't reach its end. No contract cites it.
pub record IsOnScript {S V : Type 0} (run : SessionRunState S V) (lines : List ScriptLine) (known : List ℕ) (room : ℕ) : Type 0 where
  pub enough : length known + max_reply_bytes * length lines ≤ room
  pub counted : (session_of run).book.made + max_frames * length lines < 2 ^ 64

-- Frames were played, or a line was answered: what is made and what is to come are together what they were. No contract that others see cites it.
pub record SessionGoesOn {S V : Type 0} (chip : ChipMeaning S) (saving : ChipSaving S V) (old new : SessionFilesState S V) : Type 0 where
  pub wave : old.wave ++ flat_map frame_bytes (frames_left chip saving old) ≡ new.wave ++ flat_map frame_bytes (frames_left chip saving new)
  pub report : report_of chip saving new ≡ report_of chip saving old
  pub less_work : work_of new < work_of old
