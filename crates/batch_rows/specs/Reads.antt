-- What the voices of a batch read.
use Rattle.std.specs.Prelude.{◌≡◌, ℕ, ◌+◌, ◌<◌, ◌≤◌, List, slice_index}
use Rattle.rate_clock.specs.Counter.{counter_at}
use Rattle.voice_unit.specs.declared.batch.VoiceView.{VoiceView}
use Rattle.chip_form.specs.Limits.{max_samples_of_chip, max_samples_of_batch}
use Rattle.dsp_state.specs.Registers.{is_soft_reset}
use Rattle.chip_form.specs.Samples.{SamplesResult}
use Rattle.dsp_state.specs.declared.registers.TheConstants.{DIR, PMON, NON, KOFF, FLG}
use Rattle.dsp_state.specs.declared.state.ChipState.{ChipState}
use Rattle.batch_rows.specs.KeyRows.{AreKeyRows}
use Rattle.batch_rows.specs.Rows.{by_rows}
use Rattle.batch_rows.specs.declared.reads.BatchReads.{BatchReads}
use Rattle.batch_rows.specs.declared.reads.BatchSamples.{BatchSamples}

-- what voice v sees of the registers that all voices share
abbrev pub voice_view : (registers : List ℕ) → (v : ℕ) → VoiceView
voice_view registers v = record {
  voice = v;
  dir = slice_index registers DIR;
  pmon = slice_index registers PMON;
  non = slice_index registers NON;
  koff = slice_index registers KOFF;
  reset = is_soft_reset (slice_index registers FLG);
}

-- the samples of a batch are some, and no more than a batch and a chip may have, and their clock is that of the first
pub record IsBatch (samples : BatchSamples) : Type 0 where
  pub some : 0 < samples.n
  pub few : samples.n ≤ max_samples_of_batch
  pub number : samples.number + samples.n ≤ max_samples_of_chip
  pub clock : samples.clock ≡ counter_at samples.number

-- the samples of a batch by rows, from a state and a memory
abbrev pub batch_by_rows : BatchSamples → ChipState → (memory : List ℕ) → SamplesResult ChipState
batch_by_rows samples s memory = by_rows samples.n samples.number s memory

-- what the voices read in n samples from number k on, which a chip begins with a state
pub record AreReadsOf (k n : ℕ) (s : ChipState) (reads : BatchReads) : Type 0 where
  pub registers : s.registers ≡ reads.registers.now
  pub table : s.table ≡ reads.table.now
  pub rows : AreKeyRows k n s reads.rows.now
  pub clock : reads.clock ≡ counter_at k
