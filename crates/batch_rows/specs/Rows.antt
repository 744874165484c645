-- A batch by rows: the keys and the noise, then voice by voice, and then the echo over the rows of sums.
use Rattle.std.specs.Prelude.{ℕ, zero, suc, ◌+◌, List, [], ◌++◌, map, pos}
use Rattle.voice_unit.specs.Voice.{VoiceState}
use Rattle.voice_unit.specs.declared.interface.VoiceOut.{VoiceOut}
use Rattle.echo_unit.specs.Echo.{EchoState}
use Rattle.echo_unit.specs.EchoOverBatch.{EchoOver, echo_over}
use Rattle.trace_form.specs.declared.record.Record.{Record}
use Rattle.dsp_state.specs.Registers.{echo_regs}
use Rattle.dsp_state.specs.Mix.{main_frame, sent_frame}
use Rattle.dsp_state.specs.Volumes.{all_volumes}
use Rattle.dsp_state.specs.Results.{registers_after}
use Rattle.chip_form.specs.Samples.{SamplesResult}
use Rattle.dsp_state.specs.Sample.{SharedInput, before_voices, shared_input, records_from}
use Rattle.dsp_state.specs.declared.state.ChipState.{ChipState}
use Rattle.batch_rows.specs.Lane.{lanes, voices_after}

-- the keys and the noise once so many samples are made, from number k on; all else is as it was
unfoldable pub keys_after : (k : ℕ) → ChipState → (samples : ℕ) → ChipState
keys_after k s zero = s
keys_after k s (suc j) = before_voices (keys_after k s j) (k + j)

-- what all voices read in sample j of the batch: keys, noise and counter by the sample's number, and the memory from before the batch
unfoldable pub inputs : (k : ℕ) → ChipState → (memory : List ℕ) → (j : ℕ) → SharedInput
inputs k s memory j = shared_input (keys_after k s (suc j)) memory (k + j)

-- what the voices give in sample j
unfoldable pub answers : (k : ℕ) → ChipState → (memory : List ℕ) → (j : ℕ) → List VoiceOut
answers k s memory j = map (λ result. result.answer) (lanes (inputs k s memory) 0 (λ j. pos 0) s.hidden.voices j)

-- the registers with the results of so many samples
abbrev pub results_after : (rows : ℕ → List VoiceOut) → (registers : List ℕ) → (samples : ℕ) → List ℕ
results_after rows registers zero = registers
results_after rows registers (suc j) = registers_after (rows j) (results_after rows registers j)

-- the records of so many samples, from number k on
abbrev pub records_after : (rows : ℕ → List VoiceOut) → (k samples : ℕ) → List Record
records_after rows k zero = []
records_after rows k (suc j) = records_after rows k j ++ records_from (k + j) 0 (rows j)

-- the echo of a batch
unfoldable pub echo_after : (k : ℕ) → ChipState → (memory : List ℕ) → (samples : ℕ) → EchoOver
echo_after k s memory n =
    let volumes = all_volumes s.registers s.muted in
    echo_over (echo_regs s.registers) (λ j. main_frame volumes (answers k s memory j)) (λ j. sent_frame volumes (answers k s memory j))
    s.hidden.echo memory n

-- a state with other registers, voices and echo
abbrev pub with_parts : ChipState → (registers : List ℕ) → (voices : List VoiceState) → EchoState → ChipState
with_parts s registers voices echo = record s { registers = registers; hidden = record s.hidden { voices = voices; echo = echo } }

-- n samples from number k on, by rows
unfoldable pub by_rows : (n k : ℕ) → ChipState → (memory : List ℕ) → SamplesResult ChipState
by_rows n k s memory =
    let echo = echo_after k s memory n in
    record {
      state = with_parts (keys_after k s n) (results_after (answers k s memory) s.registers n)
          (voices_after (inputs k s memory) 0 (λ j. pos 0) s.hidden.voices n) echo.echo;
      memory = echo.memory;
      frames = echo.frames;
      records = records_after (answers k s memory) k n;
    }
