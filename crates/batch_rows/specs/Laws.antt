-- The laws of batches by rows.
use Rattle.std.specs.Prelude.{◌≡◌, ℕ, suc, ◌+◌, ◌<◌, ◌≤◌, List, true, false, length, slice_index}
use Rattle.std.specs.FinSet as set
use Rattle.aram_core.specs.Pages.{have_common_page}
use Rattle.voice_unit.specs.declared.interface.VoiceOut.{VoiceOut}
use Rattle.echo_unit.specs.Cells.{cell_after}
use Rattle.echo_unit.specs.Flg.{has_echo_writes}
use Rattle.reach_map.specs.Reach.{window_pages}
use Rattle.chip_form.specs.Limits.{max_samples_of_batch}
use Rattle.dsp_state.specs.Reach.{chip_window, chip_reach}
use Rattle.dsp_state.specs.Registers.{echo_regs}
use Rattle.dsp_state.specs.Sample.{is_polled, sample}
use Rattle.chip_form.specs.Samples.{samples}
use Rattle.dsp_state.specs.Valid.{is_valid}
use Rattle.dsp_state.specs.declared.registers.TheConstants.{FLG, ENDX}
use Rattle.dsp_state.specs.declared.state.ChipState.{ChipState}
use Rattle.reach_laws.specs.CellsMiss.{CellsMissVoices}
use Rattle.batch_rows.specs.BoundingPages.{bounding_pages_of_chip}
use Rattle.batch_rows.specs.Apart.{VoicesReadTheSame}
use Rattle.batch_rows.specs.Once.{put_once, endx_after}
use Rattle.batch_rows.specs.Rows.{by_rows, keys_after, results_after}

-- samples whose voices read nothing that the echo writes are those by rows
abbrev pub ApartByRows : Type 0
ApartByRows = (n k : ℕ) (s : ChipState) (memory : List ℕ) → VoicesReadTheSame n k s memory → samples sample n k s memory ≡ by_rows n k s memory

-- so are those of a batch from a valid state whose echo can't write what its voices read
abbrev pub ReachByRows : Type 0
ReachByRows =
    (n k : ℕ) (s : ChipState) (memory : List ℕ) → n ≤ max_samples_of_batch → is_valid s ≡ true → (chip_reach s memory).entangled ≡ false
    → samples sample n k s memory ≡ by_rows n k s memory

-- so are those of a batch from a valid state whose cells of the echo have no byte that a voice can read in it
abbrev pub BytesByRows : Type 0
BytesByRows =
    (n k : ℕ) (s : ChipState) (memory : List ℕ) → n ≤ max_samples_of_batch → is_valid s ≡ true
    → CellsMissVoices (cell_after s.hidden.echo (echo_regs s.registers)) s memory n 0 s.hidden.voices
    → samples sample n k s memory ≡ by_rows n k s memory

-- and those made while echo writes are off
abbrev pub StillByRows : Type 0
StillByRows =
    (n k : ℕ) (s : ChipState) (memory : List ℕ) → has_echo_writes (slice_index s.registers FLG) ≡ false
    → samples sample n k s memory ≡ by_rows n k s memory

-- where the window has no page of the conservative bounds of what voices can read, the reach isn't entangled
abbrev pub ApartByBounds : Type 0
ApartByBounds =
    (s : ChipState) (memory : List ℕ)
    → have_common_page (set.from_list (bounding_pages_of_chip s memory)) (set.from_list (window_pages (chip_window s))) ≡ false
    → (chip_reach s memory).entangled ≡ false

-- the results of a batch are those of its last sample, but for ENDX
abbrev pub ResultsOnce : Type 0
ResultsOnce =
    (rows : ℕ → List VoiceOut) (registers : List ℕ) (n : ℕ) → ((j : ℕ) → length (rows j) ≡ 8) → ENDX < length registers
    → results_after rows registers (suc n) ≡ put_once (rows n) (endx_after rows (slice_index registers ENDX) (suc n)) registers

-- a poll after the first of a batch latches no key-ons
abbrev pub KeysOnce : Type 0
KeysOnce =
    (k : ℕ) (s : ChipState) (i more : ℕ) → s.hidden.kon_pending < 0x100 → is_polled (k + i) ≡ true → is_polled (k + suc (more + i)) ≡ true
    → (keys_after k s (suc (suc (more + i)))).hidden.kon_latched ≡ 0
