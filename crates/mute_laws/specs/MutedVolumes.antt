-- Chips that differ in volumes of muted voices alone.
use Rattle.std.specs.Prelude.{◌≡◌, ℕ, ◌/◌, ◌%◌, ◌<◌, ◌==◌, Bool, true, false, ◌&&◌, ◌||◌, List, length, slice_index}
use Rattle.num_fix.specs.Arithmetic.{has_bit}
use Rattle.chip_form.specs.Samples.{SamplesResult, samples}
use Rattle.dsp_state.specs.Sample.{sample}
use Rattle.dsp_state.specs.Outside.{register_read, register_write}
use Rattle.dsp_state.specs.declared.registers.TheConstants.{VOLL, VOLR}
use Rattle.dsp_state.specs.declared.state.ChipState.{ChipState}

-- the register at an address is VOLL or VOLR of a muted voice
abbrev pub is_muted_volume : (muted address : ℕ) → Bool
is_muted_volume muted address = has_bit muted (address / 16) && (address % 16 == VOLL || address % 16 == VOLR)

-- two chips that differ in these registers alone
pub record AreAlike (s t : ChipState) : Type 0 where
  pub rest : t ≡ record s { registers = t.registers }
  pub count : length s.registers ≡ length t.registers
  pub others : (address : ℕ) → is_muted_volume s.muted address ≡ false → slice_index s.registers address ≡ slice_index t.registers address

-- what samples of two such chips leave and give
pub record MakeTheSame (one other : SamplesResult ChipState) : Type 0 where
  pub frames : one.frames ≡ other.frames
  pub records : one.records ≡ other.records
  pub memory : one.memory ≡ other.memory
  pub state : AreAlike one.state other.state

-- their samples are the same
abbrev pub SamplesStayAlike : Type 0
SamplesStayAlike =
    (n k : ℕ) (s t : ChipState) (memory : List ℕ) → AreAlike s t → MakeTheSame (samples sample n k s memory) (samples sample n k t memory)

-- all other registers read the same
abbrev pub ReadsStayAlike : Type 0
ReadsStayAlike =
    (s t : ChipState) (address : ℕ) → AreAlike s t → is_muted_volume s.muted (address % 0x80) ≡ false
    → register_read s address ≡ register_read t address

-- a write of both keeps them alike
abbrev pub WritesStayAlike : Type 0
WritesStayAlike = (s t : ChipState) (address byte : ℕ) → AreAlike s t → AreAlike (register_write s address byte) (register_write t address byte)

-- and so does a write of such a volume of one of them
abbrev pub MutedWritesStayAlike : Type 0
MutedWritesStayAlike =
    (s t : ChipState) (address byte : ℕ) → AreAlike s t → address < 0x80 → is_muted_volume s.muted address ≡ true
    → AreAlike s (register_write t address byte)
