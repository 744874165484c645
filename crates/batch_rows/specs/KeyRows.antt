-- The rows of keys and noise that the voices of a batch read.
use Rattle.std.specs.Prelude.{◌≡◌, ℕ, suc, ◌+◌, ◌<◌, false, get_or, slice_index}
use Rattle.voice_unit.specs.declared.all_voices.BatchRows.{BatchRows}
use Rattle.dsp_state.specs.Sample.{is_polled}
use Rattle.dsp_state.specs.declared.state.ChipState.{ChipState}
use Rattle.batch_rows.specs.Rows.{keys_after}

-- the rows of n samples from number k on, from a state
pub record AreKeyRows (k n : ℕ) (s : ChipState) (rows : BatchRows) : Type 0 where
  pub noise : (j : ℕ) → j < n → slice_index rows.noise j ≡ (keys_after k s (suc j)).hidden.noise
  pub polls : (j : ℕ) → j < n → get_or rows.poll j false ≡ is_polled (k + j)
  pub kon_latched : (j : ℕ) → j < n → slice_index rows.kon j ≡ (keys_after k s (suc j)).hidden.kon_latched
