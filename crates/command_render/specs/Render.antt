-- What `render` answers.
use Rattle.std.specs.Prelude.{ℕ, ℤ, List, [], ◌∷◌, Option, Some, None, is_some, unwrap_or}
use Rattle.std.specs.Option.{option_map}
use Rattle.wav_form.specs.Wave.{stereo_wave}
use Rattle.lock_step.specs.declared.counts.Counts.{Counts}
use Rattle.render_core.specs.Fade.{faded_frames}
use Rattle.spc_form.specs.Tags.{length_of}
use Rattle.spc_form.specs.declared.tags.Length.{Length}
use Rattle.command_runner.specs.Answer.{Answer, done}
use Rattle.command_runner.specs.NamedInputs.{NamedInput, Held, first, second}
use Rattle.command_runner.specs.Stream.{pair}
use Rattle.input_files.specs.Reading.{answer_from}
use Rattle.input_files.specs.Inputs.{spc_input, table_input, file_in, table_in}
use Rattle.command_render.specs.Options.{Options}
use Rattle.render_files.specs.RenderFiles.{trace_of}
use Rattle.render_files.specs.RenderReport.{sound_report}
use Rattle.tune_opening.specs.Tune.{tune_frames, tune_records, tune_counts}
use Rattle.exit_status.specs.declared.cause.Cause.{Cause}

-- the length of a render and its fade: so many samples without a fade, or as the file's tags say
abbrev pub length_with : (samples : Option ℕ) → (file : List ℕ) → Length
length_with None file = length_of file
length_with (Some samples) file = record { frames = samples; fade = 0 }

-- the voices of the trace, where there is a trace: none, unless they are given
abbrev pub traced_voices : Options → Option ℕ
traced_voices options = option_map (λ name. unwrap_or options.voices 0) options.trace

-- The sound file, the trace where it has a name, and a report on so many frames and on the batches in which they were made.
abbrev pub files_answer : (wave : List ℕ) → (trace : Option (List ℕ)) → (frames : ℕ) → Counts → (wave_bytes lines : List ℕ) → Answer Cause
files_answer wave trace frames counts wave_bytes lines = done (pair wave trace wave_bytes lines) (sound_report frames counts)

-- the muted voices: none, unless they are given
abbrev pub muted_voices : Options → ℕ
muted_voices options = unwrap_or options.muted 0

-- the sound file of so many frames of a tune, faded, with its header; the lines of its trace, where there is one; and its report
abbrev pub rendered_wave : (file : List ℕ) → (table : List ℤ) → (muted : ℕ) → (voices : Option ℕ) → Length → List ℕ
rendered_wave file table muted voices length =
    stereo_wave (faded_frames (tune_frames file table muted (unwrap_or voices 0) length.frames) length.fade)

abbrev pub rendered_trace : (file : List ℕ) → (table : List ℤ) → (muted : ℕ) → (voices : Option ℕ) → Length → List ℕ
rendered_trace file table muted voices length =
    trace_of (is_some voices) (tune_records file table muted (unwrap_or voices 0) length.frames)

abbrev pub rendered_counts : (file : List ℕ) → (table : List ℤ) → (muted : ℕ) → (voices : Option ℕ) → Length → Counts
rendered_counts file table muted voices length = tune_counts file table muted (unwrap_or voices 0) length.frames

-- What a file and a table answer: the frames of the run, faded, the lines of its records, and the counts of its batches.
abbrev pub rendering_answer : (wave : List ℕ) → Options → (file : List ℕ) → (table : List ℤ) → Answer Cause
rendering_answer wave options file table =
    let length = length_with options.samples file in
    let muted = muted_voices options in
    let voices = traced_voices options in
    files_answer wave options.trace length.frames (rendered_counts file table muted voices length)
    (rendered_wave file table muted voices length) (rendered_trace file table muted voices length)

-- the same by what the table holds
abbrev pub file_answer : (wave : List ℕ) → Options → (held_table : Option (List ℕ)) → (file : List ℕ) → Answer Cause
file_answer wave options held_table file = answer_from (table_in held_table) (rendering_answer wave options file)

-- the same by what the inputs hold: the file comes first
abbrev pub render_answer : (wave : List ℕ) → Options → (held_file held_table : Option (List ℕ)) → Answer Cause
render_answer wave options held_file held_table =
    answer_from (file_in held_file) (file_answer wave options held_table)

-- what is answered, by what the inputs of these names hold
abbrev pub render_over : (wave : List ℕ) → Options → Held → Answer Cause
render_over wave options = λ held. render_answer wave options (first held) (second held)

-- the inputs of these names, in the order in which they are read
abbrev pub render_inputs : (file table : List ℕ) → List NamedInput
render_inputs file table = spc_input file ∷ table_input table ∷ []
