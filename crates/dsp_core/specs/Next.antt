-- What the next samples of a chip leave and give.
use Rattle.std.specs.Prelude.{ℕ, List}
use Rattle.chip_form.specs.Samples.{SampleResult, SamplesResult, samples}
use Rattle.dsp_state.specs.declared.state.ChipState.{ChipState}
use Rattle.dsp_state.specs.Sample.{sample}
use Rattle.dsp_core.specs.Chip.{DspView}

-- the next sample over a memory
abbrev pub next_sample : DspView → (memory : List ℕ) → SampleResult ChipState
next_sample dsp memory = sample dsp.sample dsp.state memory

-- the next n samples
abbrev pub next_samples : (n : ℕ) → DspView → (memory : List ℕ) → SamplesResult ChipState
next_samples n dsp memory = samples sample n dsp.sample dsp.state memory
