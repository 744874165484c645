-- What holds of the fields of each chip.
use Rattle.std.specs.Prelude.{◌≡◌, true}
use Rattle.rate_clock.specs.Counter.{counter_after}
use Rattle.dsp_state.specs.Settings.{settings_of}
use Rattle.dsp_state.specs.Valid.{is_valid}
use Rattle.dsp_core.specs.declared.dsp.Dsp.TheInside.{Inside}

pub record IsDsp (d : Inside) : Type 0 where
  pub clock : d.clock ≡ counter_after d.number
  pub valid : is_valid d.state ≡ true
  -- what was read of the registers is what they say
  pub settings : d.fresh ≡ true → d.settings ≡ settings_of d.state.registers d.state.muted
