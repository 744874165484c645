-- What a player is opened with: a file and a table of weights, or why the bytes are none.
use Rattle.std.specs.Prelude.{◌≡◌, ℕ, ℤ, List, [], Result, Ok, Err}
use Rattle.chip_form.specs.Samples.{count_after}
use Rattle.dsp_state.specs.declared.state.ChipState.{ChipState}
use Rattle.gauss_table.specs.declared.refusal.TableRefusal.{TableRefusal}
use Rattle.gauss_table.specs.Weights.{weights_in}
use Rattle.lock_step.specs.Machine.{Machine}
use Rattle.render_core.specs.MachineRun.{Whole}
use Rattle.render_core.specs.Whole.{with_chip}
use Rattle.spc_form.specs.declared.reading.SpcRefusal.{SpcRefusal}
use Rattle.spc_form.specs.Accepted.{spc_file}
use Rattle.spc_form.specs.Tags.{length_of}
use Rattle.cut_form.specs.Checkpoints.{with_checkpoint}
use Rattle.tune_opening.specs.Tune.{opened_tune, tune_frames, tune_pages, tune_chip}
use Rattle.spc_player.specs.declared.refusal.PlayerRefusal.{PlayerRefusal}
use Rattle.spc_player.specs.declared.options.PlayerOptions.{PlayerOptions}
use Rattle.player.specs.OwnMarks.{spacing_of}
use Rattle.spc_player.specs.Refusals.{of_spc, of_table}
use Rattle.player.specs.Player.{position_of, marks_of, pool_capacity, made_of}
use Rattle.spc_player.specs.Player.{SpcPlayer, opening_of, frames_of, memory_of, chip_of}

pub record Inputs : Type 0 where
  -- the padded bytes of the file, and the 512 weights
  pub file : List ℕ
  pub weights : List ℤ

abbrev pub inputs_from : Result (List ℕ) SpcRefusal → Result (List ℤ) TableRefusal → Result Inputs PlayerRefusal
inputs_from (Err refusal) table = Err (of_spc refusal)
inputs_from (Ok file) (Err refusal) = Err (of_table refusal)
inputs_from (Ok file) (Ok weights) = Ok (record { file = file; weights = weights })

-- the file is reported before the table
abbrev pub inputs_of : (bytes table : List ℕ) → Result Inputs PlayerRefusal
inputs_of bytes table = inputs_from (spc_file bytes) (weights_in table)

-- The tune of a player is that of a file over a table, with these voices muted: its opening, and with it the frames, the pages and the S-DSP of
-- all that it plays, are those of a render with these voices muted.
pub record IsOfTune (inputs : Inputs) (muted : ℕ) (player : SpcPlayer) : Type 0 where
  pub file : player.file ≡ inputs.file
  pub start : opening_of player ≡ opened_tune inputs.file inputs.weights muted 0
  pub frames : frames_of player ≡ tune_frames inputs.file inputs.weights muted 0
  pub memory : memory_of player ≡ tune_pages inputs.file inputs.weights muted
  pub chip : chip_of player ≡ tune_chip inputs.file inputs.weights muted

-- a player whose opening and file stay stays one of its tune
abbrev pub TuneStays : Type 0
TuneStays =
    (inputs : Inputs) (muted : ℕ) (old new : SpcPlayer) → opening_of new ≡ opening_of old → new.file ≡ old.file
    → IsOfTune inputs muted old → IsOfTune inputs muted new

-- A player stands at the opening of a tune, with the voices of its options muted, where its one mark is, and has made no frame.
pub record IsAtOpening (inputs : Inputs) (options : PlayerOptions) (player : SpcPlayer) : Type 0 where
  pub tune : IsOfTune inputs options.muted player
  pub position : position_of player ≡ 0
  pub marks : marks_of player ≡ with_checkpoint [] 0 (memory_of player 0)
  pub capacity : pool_capacity player ≡ options.pages
  pub spacing : player.spacing ≡ spacing_of options.mark_seconds
  pub made : made_of player ≡ 0
  pub end : player.end ≡ length_of inputs.file

-- it was opened with these bytes
abbrev pub IsOpened : (bytes table : List ℕ) → PlayerOptions → SpcPlayer → Type 0
IsOpened bytes table options player = (inputs : Inputs) × (inputs_of bytes table ≡ Ok inputs) × IsAtOpening inputs options player

-- a machine whose S-DSP has these voices muted and no others
abbrev pub with_voices_muted : Whole (Machine ChipState) → (muted : ℕ) → Whole (Machine ChipState)
with_voices_muted w muted = with_chip w (record w.1.chip { muted = muted })

-- These voices are muted now, and no others, from the opening on: so whatever tune it was of, with whatever voices muted, it is of that tune with
-- these. It stands where it stood, has the mark of frame 0 alone, and made the frames from there.
pub record IsMuted (muted : ℕ) (old new : SpcPlayer) : Type 0 where
  pub start : opening_of new ≡ with_voices_muted (opening_of old) muted
  pub file : new.file ≡ old.file
  pub tune : (inputs : Inputs) (before : ℕ) → IsOfTune inputs before old → IsOfTune inputs muted new
  pub position : position_of new ≡ position_of old
  pub marks : marks_of new ≡ with_checkpoint [] 0 (memory_of new 0)
  pub made : made_of new ≡ count_after (made_of old) (position_of old)
  pub capacity : pool_capacity new ≡ pool_capacity old
  pub spacing : new.spacing ≡ old.spacing
  pub end : new.end ≡ old.end
