-- The options of `render`.
use Rattle.std.specs.Prelude.{ℕ, ◌≤◌, List, Option, IfSome}
use Rattle.std.specs.Option.{option_map}
use Rattle.num_fix.specs.Limits.{max_frames}
use Rattle.command_render.specs.declared.options.RenderOptions.{RenderOptions}

-- each option with its value, where it was given
pub record Options : Type 0 where
  -- the number of samples
  pub samples : Option ℕ
  -- the name of the trace
  pub trace : Option (List ℕ)
  -- the voices of the trace: bit v is voice v
  pub voices : Option ℕ
  -- the muted voices, likewise
  pub muted : Option ℕ

-- what the options of a call say
abbrev pub options_of : RenderOptions → Options
options_of options = record {
  samples = options.samples;
  trace = option_map (λ name. name.now) options.trace;
  voices = options.voices;
  muted = options.muted;
}

-- a number of samples that was given is an hour of frames at most
abbrev pub SamplesWithinHour : Option ℕ → Type 0
SamplesWithinHour samples = IfSome samples (λ samples. samples ≤ max_frames)
