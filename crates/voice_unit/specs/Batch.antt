-- A voice over a batch of samples. A row is given by the sample's place in the batch, from 0 on.
use Rattle.std.specs.Prelude.{ℕ, zero, suc, ◌+◌, List, ℤ, false, get_or, slice_index}
use Rattle.num_fix.specs.Arithmetic.{has_bit}
use Rattle.num_fix.specs.SignedWords.{number_at}
use Rattle.rate_clock.specs.Counter.{counter_at}
use Rattle.voice_unit.specs.Voice.{VoiceState, is_modulated, voice_step, voice_answer}
use Rattle.voice_unit.specs.declared.interface.VoiceRegs.{VoiceRegs}
use Rattle.voice_unit.specs.declared.interface.VoiceIn.{VoiceIn}
use Rattle.voice_unit.specs.declared.interface.VoiceOut.{VoiceOut}
use Rattle.voice_unit.specs.declared.all_voices.BatchRows.{BatchRows}
use Rattle.voice_unit.specs.declared.batch.VoiceView.{VoiceView}
use Rattle.voice_unit.specs.declared.batch.VoiceReads.{VoiceReads}

-- what a voice reads in sample j, after the output of the voice before it
unfoldable pub lane_input : VoiceView → BatchRows → (previous : ℤ) → (j : ℕ) → VoiceIn
lane_input lane rows previous j = record {
  dir = lane.dir;
  modulated = is_modulated lane.pmon lane.voice;
  previous = previous;
  noisy = has_bit lane.non lane.voice;
  noise = slice_index rows.noise j;
  reset = lane.reset;
  poll = get_or rows.poll j false;
  koff = has_bit lane.koff lane.voice;
  kon = has_bit (slice_index rows.kon j) lane.voice;
}

-- what it reads in each sample, over the row of outputs of the voice before it
abbrev pub lane_inputs : VoiceView → BatchRows → (previous : List ℤ) → ℕ → VoiceIn
lane_inputs lane rows previous j = lane_input lane rows (number_at previous j) j

-- a voice after so many steps, by the rows of its inputs and of counters
unfoldable pub steps : VoiceRegs → (inputs : ℕ → VoiceIn) → (memory : List ℕ) → (counters : ℕ → ℕ)
    → VoiceState → (samples : ℕ) → VoiceState
steps r inputs memory counters voice zero = voice
steps r inputs memory counters voice (suc j) = voice_step (steps r inputs memory counters voice j) r (inputs j) memory (counters j)

-- what its step in sample j gives
unfoldable pub answer_of_step : VoiceRegs → (inputs : ℕ → VoiceIn) → (memory : List ℕ) → (table : List ℤ)
    → (counters : ℕ → ℕ) → VoiceState → (j : ℕ) → VoiceOut
answer_of_step r inputs memory table counters voice j =
    voice_answer (steps r inputs memory counters voice j) r (inputs j) memory table (counters j)

-- what a voice and its row read in a batch from number k on
pub record Lane : Type 0 where
  pub regs : VoiceRegs
  pub inputs : ℕ → VoiceIn
  pub memory : List ℕ
  pub table : List ℤ
  pub k : ℕ
  pub voice : VoiceState

-- that of a voice over what it reads of a batch and the row of outputs of the voice before it
abbrev pub lane_of : VoiceReads → (previous : List ℤ) → VoiceState → (k : ℕ) → Lane
lane_of reads previous voice k = record {
  regs = reads.regs;
  inputs = lane_inputs reads.seen reads.rows.now previous;
  memory = reads.memory.now;
  table = reads.table.now;
  k = k;
  voice = voice;
}

-- the voice after j samples, and what it gives in sample j
abbrev pub voice_at : Lane → (j : ℕ) → VoiceState
voice_at lane j = steps lane.regs lane.inputs lane.memory (λ j. counter_at (lane.k + j)) lane.voice j

abbrev pub answer_at : Lane → (j : ℕ) → VoiceOut
answer_at lane j = answer_of_step lane.regs lane.inputs lane.memory lane.table (λ j. counter_at (lane.k + j)) lane.voice j
