-- What a bus emits and hands over when it is drained.
use Rattle.std.specs.Prelude.{◌≡◌, ℕ, ◌+◌, ◌-◌, ◌^◌, ◌<◌, ◌≤◌, List, length}
use Rattle.num_fix.specs.declared.Frame.{Frame}
use Rattle.trace_form.specs.declared.record.Record.{Record}
use Rattle.spc700_exec.specs.Bus.{BusMeaning}
use Rattle.chip_form.specs.Samples.{count_after}
use Rattle.spc700_exec.specs.declared.bus.TheConstants.{CYCLES_PER_SAMPLE}

pub record Emits (B : Type 0) : Type 0 where
  -- the frames and the records emitted since the last drain, and the bus without them and without the number of its calls
  pub frames : B → List Frame
  pub records : B → List Record
  pub cleared : B → B
  -- the samples of the machine that the chip hasn't made yet, and the samples that it made in all
  pub pending : B → ℕ
  pub total : B → ℕ
  -- the bus once it has made those that are pending, without what was emitted and without the number of its calls
  pub at_rest : B → B

-- Of a chip that made so many samples in all, where so many of a bus are due, of which so many are pending: it then made as
-- many more as the number of its next sample rose by, up to the end of 64 bits.
pub record CountsOn (due pending total new_due new_pending new_total : ℕ) : Type 0 where
  pub rises : due + new_pending ≤ new_due + pending
  pub counted : total < 2 ^ 64 → new_total ≡ count_after total (new_due + pending - (due + new_pending))

-- the chip beneath a bus between two of its states
abbrev pub IsCountedOn : {B : Type 0} → BusMeaning B → Emits B → (old new : B) → Type 0
IsCountedOn bus emits old new = CountsOn (bus.due old) (emits.pending old) (emits.total old) (bus.due new) (emits.pending new) (emits.total new)

-- reads, writes and passes of at most 32 cycles count on what the chip makes
pub record IsCounting {B : Type 0} (bus : BusMeaning B) (emits : Emits B) : Type 0 where
  pub read_counts : (b : B) (at : ℕ) → IsCountedOn bus emits b (bus.read b at).1
  pub write_counts : (b : B) (at value : ℕ) → IsCountedOn bus emits b (bus.write b at value)
  pub pass_counts : (b : B) (cycles : ℕ) → cycles ≤ CYCLES_PER_SAMPLE → IsCountedOn bus emits b (bus.pass b cycles)

-- reads and writes emit no frame, and a pass of at most 32 cycles emits one for each sample that it makes
pub record IsFrameEach {B : Type 0} (bus : BusMeaning B) (frames : B → List Frame) : Type 0 where
  pub read_frames : (b : B) (at : ℕ) → length (frames (bus.read b at).1) ≡ length (frames b)
  pub write_frames : (b : B) (at value : ℕ) → length (frames (bus.write b at value)) ≡ length (frames b)
  pub pass_frames : (b : B) (cycles : ℕ) → cycles ≤ CYCLES_PER_SAMPLE
      → length (frames (bus.pass b cycles)) + bus.due b ≡ length (frames b) + bus.due (bus.pass b cycles)

-- what a bus is at rest doesn't depend on what was emitted, nor does what its chip made and has pending
pub record IsBeside {B : Type 0} (emits : Emits B) : Type 0 where
  pub at_rest : (b : B) → emits.at_rest (emits.cleared b) ≡ emits.at_rest b
  pub pending : (b : B) → emits.pending (emits.cleared b) ≡ emits.pending b
  pub total : (b : B) → emits.total (emits.cleared b) ≡ emits.total b
