-- What contracts see of a render that is turned into the bytes of a sound file and of a trace, piece by piece, over any chip.
use Rattle.std.specs.Prelude.{◌≡◌, ℕ, ◌+◌, ◌-◌, ◌*◌, ◌≤◌, ◌++◌, Bool, true, List, [], length, if◌then◌else◌}
use Rattle.std.specs.List.{flat_map}
use Rattle.num_fix.specs.declared.Frame.{Frame}
use Rattle.num_fix.specs.Limits.{max_frames}
use Rattle.wav_form.specs.Wave.{frame_bytes, frame_size}
use Rattle.trace_form.specs.declared.record.Record.{Record}
use Rattle.trace_form.specs.declared.text.TheConstants.{LINE_SIZE}
use Rattle.trace_form.specs.Line.{lines_of}
use Rattle.trace_form.specs.Capacities.{frame_capacity, record_capacity}
use Rattle.spc700_exec.specs.declared.bus.TheConstants.{CYCLES_PER_SAMPLE}
use Rattle.chip_form.specs.ChipMeaning.{ChipMeaning}
use Rattle.render_core.specs.RenderState.{RenderState, frames_to_come, records_to_come, counts_to_come}
use Rattle.render_core.specs.Fade.{faded_from}
use Rattle.command_runner.specs.Stream.{Both}
use Rattle.render_files.specs.RenderReport.{sound_report}

-- the bytes of a frame of two channels
abbrev pub stereo_size : ℕ
stereo_size = frame_size 2

-- the bytes of the most frames that a piece has
abbrev pub max_bytes_of_frames : ℕ
max_bytes_of_frames = stereo_size * frame_capacity

-- the bytes of the most lines that it has
abbrev pub max_bytes_of_lines : ℕ
max_bytes_of_lines = LINE_SIZE * record_capacity

pub record FilesState (S : Type 0) : Type 0 where
  pub render : RenderState S
  -- the frames that were made, all of them, and those at the end that fade
  pub made : ℕ
  pub samples : ℕ
  pub fade : ℕ
  pub is_traced : Bool
  -- the piece that was made last
  pub wave : List ℕ
  pub trace : List ℕ
  -- whether it was the last one
  pub is_done : Bool

-- the lines of records, where there is a trace
abbrev pub trace_of : (is_traced : Bool) → List Record → List ℕ
trace_of is_traced records = if is_traced then lines_of records else []

-- the bytes of frames after so many others
abbrev pub wave_of : {S : Type 0} → FilesState S → (made : ℕ) → List Frame → List ℕ
wave_of files made frames = flat_map frame_bytes (faded_from made files.samples files.fade frames)

abbrev pub held_of : {S : Type 0} → FilesState S → Both
held_of files = record { wave = files.wave; trace = files.trace }

-- what is still to come after the piece
abbrev pub to_come_of : {S : Type 0} → ChipMeaning S → FilesState S → Both
to_come_of chip files = record {
  wave = wave_of files files.made (frames_to_come chip files.render);
  trace = trace_of files.is_traced (records_to_come chip files.render);
}

-- the bytes of the sound file from the piece on, and those of the trace
abbrev pub wave_from_piece : {S : Type 0} → ChipMeaning S → FilesState S → List ℕ
wave_from_piece chip files = files.wave ++ (to_come_of chip files).wave

abbrev pub trace_from_piece : {S : Type 0} → ChipMeaning S → FilesState S → List ℕ
trace_from_piece chip files = files.trace ++ (to_come_of chip files).trace

-- the report on all of it
abbrev pub report_of : {S : Type 0} → ChipMeaning S → FilesState S → List ℕ
report_of chip files = sound_report files.samples (counts_to_come chip files.render)

-- the cycles that are left
abbrev pub work_of : {S : Type 0} → FilesState S → ℕ
work_of files = CYCLES_PER_SAMPLE * files.samples - files.render.bus.machine.clock

-- The frames that were made and those to come are all, of which the last `fade` fade; the report stands once all are made.
pub record IsComplete {S : Type 0} (chip : ChipMeaning S) (render : RenderState S) (made samples fade : ℕ) (is_done : Bool) (report : List ℕ) : Type 0 where
  pub limit : samples ≤ max_frames
  pub within : fade ≤ samples
  pub same : render.samples ≡ samples
  pub all : made + length (frames_to_come chip render) ≡ samples
  pub known : is_done ≡ true → report ≡ sound_report samples (counts_to_come chip render)

-- Of a render that has made nothing, so many samples are to come.
pub record IsUnmade {S : Type 0} (chip : ChipMeaning S) (render : RenderState S) (samples : ℕ) : Type 0 where
  pub same : render.samples ≡ samples
  pub count : length (frames_to_come chip render) ≡ samples
