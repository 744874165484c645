-- What a render wrote, by the bytes that its inputs gave.
use Rattle.std.specs.Prelude.{◌≡◌, ℕ, ◌+◌, ℤ, List, [], ◌∷◌, ◌++◌, Some, Ok}
use Rattle.snd_host.specs.Calls.{Call, created, finished}
use Rattle.snd_host.specs.Host.{IfKnown}
use Rattle.command_runner.specs.OutputCalls.{bytes_to}
use Rattle.input_files.specs.Inputs.{file_in, table_in}
use Rattle.command_render.specs.Options.{Options}
use Rattle.command_render.specs.Render.{length_with, muted_voices, traced_voices, rendered_counts, rendered_trace, rendered_wave}
use Rattle.render_files.specs.RenderReport.{sound_report}

-- This call is one of these.
abbrev pub IsAmong : Call → List Call → Type 0
IsAmong call calls = (before : List Call) × (after : List Call) × (calls ≡ before ++ call ∷ after)

-- An output of this name was created with this number, given these bytes and ended.
pub record IsWhole (name : List ℕ) (n : ℕ) (bytes : List ℕ) (made : List Call) : Type 0 where
  pub creation : IsAmong (created name n) made
  pub given : bytes_to n made ≡ bytes
  pub ending : IsAmong (finished n) made

-- The inputs gave an SPC file and a table of weights. By them the WAV file, which is created first and gets the number n, has the frames of the run,
-- faded; the trace, where it has a name, has the lines of the run; and the report has its counts.
pub record WritesFrames (wave : List ℕ) (options : Options) (n : ℕ) (given : List (List ℕ)) (made : List Call) : Type 0 where
  pub file_bytes : List ℕ
  pub table_bytes : List ℕ
  pub gave : given ≡ file_bytes ∷ table_bytes ∷ []
  pub file : List ℕ
  pub table : List ℤ
  pub is_file : file_in (Some file_bytes) ≡ Ok file
  pub is_table : table_in (Some table_bytes) ≡ Ok table
  pub later : List Call
  pub first : made ≡ created wave n ∷ later
  pub wave_is : IsWhole wave n (rendered_wave file table (muted_voices options) (traced_voices options) (length_with options.samples file)) made
  pub trace_is : IfKnown options.trace (λ name.
      IsWhole name (n + 1) (rendered_trace file table (muted_voices options) (traced_voices options) (length_with options.samples file)) made)
  pub report_is : bytes_to 0 made ≡ (let length = length_with options.samples file in
      sound_report length.frames (rendered_counts file table (muted_voices options) (traced_voices options) length))
