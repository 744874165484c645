-- The S-DSP as a chip.
use Rattle.dsp_state.specs.declared.state.ChipState.{ChipState}
use Rattle.dsp_state.specs.Sample.{sample}
use Rattle.dsp_state.specs.Outside.{register_read, register_write}
use Rattle.dsp_state.specs.Reach.{chip_reach}
use Rattle.dsp_state.specs.Results.{is_result}
use Rattle.dsp_state.specs.Valid.{is_valid}
use Rattle.dsp_core.specs.Saved.{SavedDsp, saved_state, loaded_state}
use Rattle.chip_form.specs.ChipMeaning.{ChipMeaning}
use Rattle.chip_form.specs.ChipSaving.{ChipSaving}

abbrev pub dsp_chip : ChipMeaning ChipState
dsp_chip = record {
  register_read = register_read;
  register_write = register_write;
  is_result = is_result;
  one_sample = sample;
  reach = chip_reach;
  is_valid = is_valid;
}

-- the table is its fixed part
abbrev pub dsp_saving : ChipSaving ChipState SavedDsp
dsp_saving = record { saved = saved_state; loaded = loaded_state; number = λ saved. saved.sample }
