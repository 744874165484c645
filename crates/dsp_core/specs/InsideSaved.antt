-- What holds of the fields of all that is saved of a chip.
use Rattle.std.specs.Prelude.{◌≡◌, ℕ, List, ℤ, true}
use Rattle.std.proofs.Common.{sym}
use Rattle.rate_clock.specs.Counter.{counter_after}
use Rattle.dsp_state.specs.Valid.{is_valid}
use Rattle.dsp_core.specs.Saved.{SavedDsp}
use Rattle.dsp_core.specs.declared.saved.DspState.TheInside.{Inside}

pub record IsSaved (s : Inside) : Type 0 where
  pub clock : s.clock ≡ counter_after s.number
  -- over any table, with any voices muted
  pub valid : (table : List ℤ) (muted : ℕ) → is_valid (record { registers = s.registers; hidden = s.hidden; table = table; muted = muted }) ≡ true

-- the clock is that of the number
abbrev pub inside_of : SavedDsp → Inside
inside_of s = record { registers = s.registers; hidden = s.hidden; muted = s.muted; clock = counter_after s.sample; number = s.sample }

pub inside_of-saved : (s : Inside) → IsSaved s → inside_of (record { registers = s.registers; hidden = s.hidden; muted = s.muted; sample = s.number }) ≡ s
inside_of-saved s is = λ i. record s { clock = sym is.clock i }
