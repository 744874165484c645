-- Files that differ in volumes of muted voices alone, and runs of them.
use Rattle.std.specs.Prelude.{◌≡◌, ℕ, ℤ, ◌+◌, ◌-◌, List, length, slice_index, Bool, false, ◌&&◌, nat_le, nat_lt}
use Rattle.spc_form.specs.Layout.{dsp_place, dsp_size}
use Rattle.mute_laws.specs.MutedVolumes.{is_muted_volume}
use Rattle.dsp_core.specs.DspChip.{dsp_chip}
use Rattle.tune_opening.specs.Tune.{opened_tune, tune_frames, tune_records}
use Rattle.muted_runs.specs.Watching.{reads_in_run}

-- the byte at a place of a file is VOLL or VOLR of a muted voice
abbrev pub holds_muted_volume : (muted place : ℕ) → Bool
holds_muted_volume muted place = nat_le dsp_place place && nat_lt place (dsp_place + dsp_size) && is_muted_volume muted (place - dsp_place)

-- two files that differ there alone
pub record DifferInMutedVolumes (muted : ℕ) (file other : List ℕ) : Type 0 where
  pub count : length file ≡ length other
  pub others : (place : ℕ) → holds_muted_volume muted place ≡ false → slice_index file place ≡ slice_index other place

-- whether the program of a tune reads VOLL or VOLR of a muted voice while so many samples are made
abbrev pub reads_muted_volume : (file : List ℕ) → (table : List ℤ) → (muted mask samples : ℕ) → Bool
reads_muted_volume file table muted mask samples = reads_in_run dsp_chip (is_muted_volume muted) samples (opened_tune file table muted mask)

-- runs of two files that give the same
pub record SoundAlike (file other : List ℕ) (table : List ℤ) (muted mask samples : ℕ) : Type 0 where
  pub frames : tune_frames file table muted mask samples ≡ tune_frames other table muted mask samples
  pub records : tune_records file table muted mask samples ≡ tune_records other table muted mask samples

abbrev pub VolumesAreNotHeard : Type 0
VolumesAreNotHeard =
    (file other : List ℕ) (table : List ℤ) (muted mask samples : ℕ)
    → DifferInMutedVolumes muted file other → reads_muted_volume file table muted mask samples ≡ false
    → SoundAlike file other table muted mask samples
