-- Several samples of any chip, one after another: S is the type of the chip's states.
use Rattle.std.specs.Prelude.{◌≡◌, ℕ, zero, suc, ◌+◌, ◌-◌, ◌^◌, min, List, [], ◌∷◌, ◌++◌, Bool, true}
use Rattle.std.specs.List.{filter}
use Rattle.num_fix.specs.Arithmetic.{has_bit}
use Rattle.num_fix.specs.declared.Frame.{Frame}
use Rattle.trace_form.specs.declared.record.Record.{Record}
use Rattle.trace_form.specs.declared.record.Record.TheVariants.{Reg, Port, Voice}

-- what one sample leaves and gives: its frame, and the records of all eight voices
pub record SampleResult (S : Type 0) : Type 0 where
  pub state : S
  pub memory : List ℕ
  pub frame : Frame
  pub records : List Record

-- what several samples leave and give
pub record SamplesResult (S : Type 0) : Type 0 where
  pub state : S
  pub memory : List ℕ
  pub frames : List Frame
  pub records : List Record

-- some samples, and one more after them, of number k
abbrev pub one_more : {S : Type 0} → (ℕ → S → List ℕ → SampleResult S) → (k : ℕ) → SamplesResult S → SamplesResult S
one_more sample k before =
    let made = sample k before.state before.memory in
    record {
      state = made.state;
      memory = made.memory;
      frames = before.frames ++ made.frame ∷ [];
      records = before.records ++ made.records;
    }

-- n samples, of the numbers from k on
unfoldable pub samples : {S : Type 0} → (ℕ → S → List ℕ → SampleResult S) → (n k : ℕ) → S → List ℕ → SamplesResult S
samples sample zero k state memory = record { state = state; memory = memory; frames = []; records = [] }
samples sample (suc n) k state memory = one_more sample (k + n) (samples sample n k state memory)

-- whether a record is wanted under a mask: of the voices, those whose bits are set; all others
abbrev pub in_mask : (mask : ℕ) → Record → Bool
in_mask mask (Reg sample addr value) = true
in_mask mask (Port sample port value) = true
in_mask mask (Voice sample voice level out block keyed ended) = has_bit mask voice

-- What is there once these samples are made: the state and the memory that they leave, and after what two lists had before, their
-- frames and the records that are wanted under a mask.
pub record AddsSamples {S : Type 0} (mask : ℕ) (made : SamplesResult S) (state : S) (memory : List ℕ)
    (old_frames new_frames : List Frame) (old_records new_records : List Record) : Type 0 where
  pub state_made : state ≡ made.state
  pub memory_made : memory ≡ made.memory
  pub frames_made : new_frames ≡ old_frames ++ made.frames
  pub records_made : new_records ≡ old_records ++ filter (in_mask mask) made.records

-- What is there once one sample is made, likewise: its frame, and of its records those that are wanted.
pub record AddsSample {S : Type 0} (mask : ℕ) (made : SampleResult S) (state : S) (memory : List ℕ)
    (old_frames new_frames : List Frame) (old_records new_records : List Record) : Type 0 where
  pub state_made : state ≡ made.state
  pub memory_made : memory ≡ made.memory
  pub frames_made : new_frames ≡ old_frames ++ made.frame ∷ []
  pub records_made : new_records ≡ old_records ++ filter (in_mask mask) made.records

-- a count with some more, which stands still at the end of 64 bits
abbrev pub count_after : (count more : ℕ) → ℕ
count_after count more = min (count + more) (2 ^ 64 - 1)
