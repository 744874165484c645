-- What contracts see of cuts that are turned into the bytes of a sound file, piece by piece, over any chip.
use Rattle.std.specs.Prelude.{◌≡◌, ℕ, ◌+◌, ◌*◌, ◌^◌, ◌≤◌, ◌<◌, Bool, true, List, [], ◌++◌, drop, fold, length, codes, decimal}
use Rattle.std.specs.List.{flat_map}
use Rattle.num_fix.specs.declared.Frame.{Frame}
use Rattle.num_fix.specs.Limits.{max_frames}
use Rattle.wav_form.specs.Wave.{frame_bytes}
use Rattle.chip_form.specs.ChipMeaning.{ChipMeaning}
use Rattle.chip_form.specs.ChipSaving.{ChipSaving}
use Rattle.cut_form.specs.declared.cut.Cut.{Cut}
use Rattle.cut_form.specs.Checkpoints.{slots_used}
use Rattle.cut_form.specs.Slices.{slice_of, cut_frames, cut_samples}
use Rattle.cut_form.specs.CutBook.{CutBook, after_play, after_cut, slots_for_cuts}
use Rattle.cut_server.specs.Server.{ChipServer, pages_at, frames_to}
use Rattle.cut_server.specs.ServerState.{book_of, slots_of}
use Rattle.command_runner.specs.Stream.{Both}
use Rattle.cut_form.specs.GrowingFrames.{AreOfRun}

pub record CutFilesState (S V : Type 0) : Type 0 where
  pub server : ChipServer S V
  pub cuts : List Cut
  -- how many cuts were begun, and the frames that are left of the last of them
  pub begun : ℕ
  pub left : ℕ
  -- the piece that was made last, and whether it was the last one
  pub wave : List ℕ
  pub is_done : Bool

-- the cuts that were not begun
abbrev pub rest_of : {S V : Type 0} → CutFilesState S V → List Cut
rest_of files = drop files.begun files.cuts

-- the frames to come: those left of the cut that was begun last, and then the other cuts
abbrev pub frames_ahead : {S V : Type 0} → ChipMeaning S → ChipSaving S V → CutFilesState S V → List Frame
frames_ahead chip saving files =
    slice_of (frames_to chip saving files.server) (book_of files.server).position files.left
    ++ cut_frames (frames_to chip saving files.server) (rest_of files)

-- the book once all cuts are played
abbrev pub book_ahead : {S V : Type 0} → ChipMeaning S → ChipSaving S V → CutFilesState S V → CutBook
book_ahead chip saving files = fold (after_cut (pages_at chip saving files.server)) (after_play (book_of files.server) files.left) (rest_of files)

abbrev pub held_of : {S V : Type 0} → CutFilesState S V → Both
held_of files = record { wave = files.wave; trace = [] }

abbrev pub to_come_of : {S V : Type 0} → ChipMeaning S → ChipSaving S V → CutFilesState S V → Both
to_come_of chip saving files = record { wave = flat_map frame_bytes (frames_ahead chip saving files); trace = [] }

-- the report on cuts, with the book once they are played
unfoldable pub cuts_report : List Cut → CutBook → List ℕ
cuts_report cuts book =
    codes "cuts " ++ decimal (length cuts) ++ codes " samples " ++ decimal (cut_samples cuts)
    ++ codes " checkpoints " ++ decimal (length book.live) ++ codes " pages " ++ decimal (slots_used book.live)
    ++ codes " made " ++ decimal book.made ++ codes "\n"

abbrev pub report_of : {S V : Type 0} → ChipMeaning S → ChipSaving S V → CutFilesState S V → List ℕ
report_of chip saving files = cuts_report files.cuts (book_ahead chip saving files)

-- the frames to come, and one for each cut that was not begun
abbrev pub work_of : {S V : Type 0} → CutFilesState S V → ℕ
work_of files = files.left + (length (rest_of files) + cut_samples (rest_of files))

-- What a book keeps while cuts are played: the last cut ends within an hour, the slots in use are slots of the pool, and no
-- count of 64 bits comes to its end before all cuts are played. A seek makes an hour of samples at most.
pub record IsInBounds (book : CutBook) (left more : ℕ) : Type 0 where
  pub within : book.position + left ≤ max_frames
  pub used : slots_used book.live ≤ slots_for_cuts
  pub made : book.made + left + more * (2 * max_frames) < 2 ^ 64

-- What they keep: a server with the slots for cuts, and once the last piece is made, the report and nothing left to play.
pub record IsPlaying {S V : Type 0} (chip : ChipMeaning S) (saving : ChipSaving S V) (files : CutFilesState S V) (report : List ℕ) : Type 0 where
  pub slots : slots_of files.server ≡ slots_for_cuts
  pub run : AreOfRun (frames_to chip saving files.server)
  pub begun : files.begun ≤ length files.cuts
  pub bounds : IsInBounds (book_of files.server) files.left (length (rest_of files))
  pub known : files.is_done ≡ true → report ≡ report_of chip saving files
  pub done : files.is_done ≡ true → work_of files ≡ 0
