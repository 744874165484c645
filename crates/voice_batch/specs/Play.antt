-- A voice over a batch, as rows of numbers alone.
use Rattle.std.specs.Prelude.{◌≡◌, ℕ, ◌+◌, ◌^◌, ◌<◌, ◌≤◌, List, ℤ, true, slice_index, if◌then◌else◌}
use Rattle.num_fix.specs.SignedWords.{number_at}
use Rattle.num_fix.specs.declared.TheConstants.{BATCH_SIZE}
use Rattle.rate_clock.specs.Counter.{counter_at}
use Rattle.voice_unit.specs.Voice.{VoiceState, is_modulated, modulated_pitch}
use Rattle.voice_unit.specs.Batch.{Lane, voice_at, answer_at}
use Rattle.voice_batch.specs.Plain.{PlaysPlainly}
use Rattle.voice_unit.specs.declared.batch.VoiceView.{VoiceView}
use Rattle.voice_unit.specs.declared.batch.VoiceReads.{VoiceReads}

-- a lane has the registers, the memory, the table, the clock and the noise that are read, and where its voice is modulated the pitches
pub record IsLaneOver (reads : VoiceReads) (pitches : List ℕ) (lane : Lane) : Type 0 where
  pub regs : lane.regs ≡ reads.regs
  pub modulated : is_modulated reads.seen.pmon reads.seen.voice ≡ true
      → (j : ℕ) → j < BATCH_SIZE → slice_index pitches j ≡ modulated_pitch reads.regs.pitch (lane.inputs j).previous
  pub memory : lane.memory ≡ reads.memory.now
  pub table : lane.table ≡ reads.table.now
  pub clock : reads.clock ≡ counter_at lane.k
  pub noise : (j : ℕ) → (lane.inputs j).noise ≡ slice_index reads.rows.now.noise j

-- What n samples of voice v leave: the voice, the row of its outputs, and the row of bytes in which bit v is added where it comes to an end.
pub record IsPlayed (lane : Lane) (v n : ℕ) (before after : List ℕ) (outs : List ℤ) (voice : VoiceState) : Type 0 where
  pub voice_is : voice ≡ voice_at lane n
  pub outs_are : (j : ℕ) → j < n → number_at outs j ≡ (answer_at lane j).out
  pub ends_are : (j : ℕ) → j < n → slice_index after j ≡ slice_index before j + (if (answer_at lane j).ended then 2 ^ v else 0)
  pub others : (j : ℕ) → n ≤ j → slice_index after j ≡ slice_index before j

-- in each sample from one up to another a voice plays plainly
abbrev pub RendersSpan : (own : VoiceView) → (lane : Lane) → (from end : ℕ) → Type 0
RendersSpan own lane from end = (j : ℕ) → from ≤ j → j < end → PlaysPlainly own (lane.inputs j)

-- A span can be rendered from one sample up to another: its lane is read so, it plays plainly between them, and what comes before is played.
pub record CanRenderSpan (reads : VoiceReads) (pitches : List ℕ) (lane : Lane) (from end : ℕ) (before ends : List ℕ) (outs : List ℤ)
    (voice : VoiceState) : Type 0 where
  pub over : IsLaneOver reads pitches lane
  pub plainly : RendersSpan reads.seen lane from end
  pub played : IsPlayed lane reads.seen.voice from before ends outs voice
