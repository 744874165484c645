-- One sample of the S-DSP, part by part and in order.
use Rattle.std.specs.Prelude.{ℕ, Bool, ◌+◌, ◌%◌, ◌==◌, List, [], ◌∷◌, map, slice_index, ℤ, pos, if◌then◌else◌}
use Rattle.num_fix.specs.Arithmetic.{has_bit}
use Rattle.rate_clock.specs.Counter.{counter_at, fires}
use Rattle.rate_clock.specs.Noise.{next_noise}
use Rattle.voice_unit.specs.Voice.{VoiceState, voice_step, voice_answer}
use Rattle.voice_unit.specs.declared.interface.VoiceIn.{VoiceIn}
use Rattle.voice_unit.specs.declared.interface.VoiceOut.{VoiceOut}
use Rattle.echo_unit.specs.Echo.{next_echo, echo_memory, echo_heard, output_frame}
use Rattle.trace_form.specs.declared.record.Record.{Record}
use Rattle.trace_form.specs.declared.record.Record.TheVariants.{Voice}
use Rattle.dsp_state.specs.Registers.{voice_regs, echo_regs, is_soft_reset, noise_rate}
use Rattle.dsp_state.specs.Mix.{main_frame, sent_frame}
use Rattle.dsp_state.specs.Settings.{voice_settings}
use Rattle.dsp_state.specs.Volumes.{all_volumes}
use Rattle.dsp_state.specs.Results.{without_bits, registers_after}
use Rattle.chip_form.specs.Samples.{SampleResult}
use Rattle.dsp_state.specs.declared.registers.TheConstants.{DIR, FLG}
use Rattle.dsp_state.specs.declared.state.ChipState.{ChipState}
use Rattle.dsp_state.specs.declared.voice_settings.SharedByVoices.{SharedByVoices}

-- the sample of a number polls the keys, as each even one does
abbrev pub is_polled : (k : ℕ) → Bool
is_polled k = k % 2 == 0

-- A sample that polls the keys: the pending key-ons lose those latched at the last poll, and the rest is latched.
unfoldable pub after_poll : ChipState → (k : ℕ) → ChipState
after_poll s k =
    let kon_pending = without_bits s.hidden.kon_pending s.hidden.kon_latched in
    if is_polled k then record s { hidden = record s.hidden { kon_pending = kon_pending; kon_latched = kon_pending } } else s

-- the noise goes on where its rate fires
unfoldable pub after_noise : ChipState → (counter : ℕ) → ChipState
after_noise s counter =
    let fired = fires (noise_rate (slice_index s.registers FLG)) counter in
    record s { hidden = record s.hidden { noise = if fired then next_noise s.hidden.noise else s.hidden.noise } }

-- what all voices read in a sample
pub record SharedInput : Type 0 where
  pub registers : List ℕ
  pub common : SharedByVoices
  pub memory : List ℕ
  pub table : List ℤ
  pub counter : ℕ

-- what voice v reads beside its registers, after the output of the voice before it
unfoldable pub voice_in : (registers : List ℕ) → SharedByVoices → (v : ℕ) → (previous : ℤ) → VoiceIn
voice_in registers common v previous =
    let own = voice_settings registers v in
    record {
      dir = slice_index registers DIR;
      modulated = own.modulated;
      previous = previous;
      noisy = own.noisy;
      noise = common.noise;
      reset = is_soft_reset (slice_index registers FLG);
      poll = common.is_poll;
      koff = own.koff;
      kon = has_bit common.kon_latched v;
    }

-- what a voice becomes and gives in a sample
pub record VoiceResult : Type 0 where
  pub voice : VoiceState
  pub answer : VoiceOut

unfoldable pub voice_result : SharedInput → (v : ℕ) → (previous : ℤ) → VoiceState → VoiceResult
voice_result shared v previous voice =
    let r = voice_regs shared.registers v in
    let i = voice_in shared.registers shared.common v previous in
    record {
      voice = voice_step voice r i shared.memory shared.counter;
      answer = voice_answer voice r i shared.memory shared.table shared.counter;
    }

-- the results of the voices from v on, one after another
abbrev pub results_from : SharedInput → (v : ℕ) → (previous : ℤ) → List VoiceState → List VoiceResult
results_from shared v previous [] = []
results_from shared v previous (voice ∷ voices) =
    let result = voice_result shared v previous voice in
    result ∷ results_from shared (v + 1) result.answer.out voices

-- the records of the voices from v on in the sample of number k
abbrev pub records_from : (k v : ℕ) → List VoiceOut → List Record
records_from k v [] = []
records_from k v (answer ∷ answers) =
    Voice k v answer.level answer.out answer.block answer.keyed answer.ended ∷ records_from k (v + 1) answers

-- what the voices read once the keys are polled and the noise has gone on
abbrev pub shared_input : ChipState → List ℕ → (k : ℕ) → SharedInput
shared_input s memory k = record {
  registers = s.registers;
  common = record { noise = s.hidden.noise; kon_latched = s.hidden.kon_latched; is_poll = is_polled k };
  memory = memory;
  table = s.table;
  counter = counter_at k;
}

-- the rest of a sample, once the keys are polled and the noise has gone on: the voices in order, the echo with the output, and
-- the registers' results
abbrev pub rest_of_sample : (k : ℕ) → ChipState → List ℕ → SampleResult ChipState
rest_of_sample k now memory =
    let results = results_from (shared_input now memory k) 0 (pos 0) now.hidden.voices in
    let answers = map (λ result. result.answer) results in
    let volumes = all_volumes now.registers now.muted in
    let regs = echo_regs now.registers in
    record {
      state = record now {
        registers = registers_after answers now.registers;
        hidden = record now.hidden { voices = map (λ result. result.voice) results; echo = next_echo now.hidden.echo regs memory };
      };
      memory = echo_memory now.hidden.echo regs memory (sent_frame volumes answers);
      frame = output_frame regs (main_frame volumes answers) (echo_heard now.hidden.echo regs memory);
      records = records_from k 0 answers;
    }

-- a state before its voices step: once the keys are polled and the noise has gone on
abbrev pub before_voices : ChipState → (k : ℕ) → ChipState
before_voices s k = after_noise (after_poll s k) (counter_at k)

-- one sample, of number k
unfoldable pub sample : (k : ℕ) → ChipState → List ℕ → SampleResult ChipState
sample k s memory = rest_of_sample k (before_voices s k) memory
