-- That the voices of a batch read nothing that its echo writes.
use Rattle.std.specs.Prelude.{◌≡◌, ℕ, ◌+◌, ◌<◌, List, pos}
use Rattle.chip_form.specs.Samples.{samples}
use Rattle.dsp_state.specs.Sample.{before_voices, shared_input, results_from, sample}
use Rattle.dsp_state.specs.declared.state.ChipState.{ChipState}

-- in each of n samples from number k on, the voices give what they would give over the memory from before the batch
abbrev pub VoicesReadTheSame : (n k : ℕ) → ChipState → (memory : List ℕ) → Type 0
VoicesReadTheSame n k s memory =
    (j : ℕ) → j < n →
    let now = samples sample j k s memory in
    results_from (shared_input (before_voices now.state (k + j)) now.memory (k + j)) 0 (pos 0) now.state.hidden.voices
    ≡ results_from (shared_input (before_voices now.state (k + j)) memory (k + j)) 0 (pos 0) now.state.hidden.voices
