-- A sample with other voices muted.
use Rattle.std.proofs.Common.{◌≡◌, ℕ, ◌%◌, ◌==◌, nat_le, List, Bool, true, false, slice_set, if◌then◌else◌, refl, ap}
use Rattle.rate_clock.specs.Counter.{counter_at}
use Rattle.dsp_state.specs.Results.{without_bits}
use Rattle.dsp_state.specs.Outside.{register_write}
use Rattle.dsp_state.specs.declared.registers.TheConstants.{KON, ENDX}
use Rattle.dsp_state.specs.Sample.{after_poll, after_noise, before_voices, rest_of_sample, sample}
use Rattle.dsp_state.specs.declared.state.ChipState.{ChipState}
use Rattle.mute_laws.specs.Muting.{with_muted}

-- the poll
poll_with : (s : ChipState) (k muted : ℕ) → after_poll (with_muted s muted) k ≡ with_muted (after_poll s k) muted
unfolding after_poll
poll_with s k muted = by (k % 2 == 0)
  where
    kon_pending : ℕ
    kon_pending = without_bits s.hidden.kon_pending s.hidden.kon_latched

    whole : ChipState
    whole = with_muted s muted

    by : (b : Bool) → (if b then record whole { hidden = record whole.hidden { kon_pending = kon_pending; kon_latched = kon_pending } } else whole)
        ≡ with_muted (if b then record s { hidden = record s.hidden { kon_pending = kon_pending; kon_latched = kon_pending } } else s) muted
    by true = refl
    by false = refl

-- and the noise
before_voices_with : (s : ChipState) (k muted : ℕ) → before_voices (with_muted s muted) k ≡ with_muted (before_voices s k) muted
unfolding after_noise
before_voices_with s k muted = ap (λ (t : ChipState). after_noise t (counter_at k)) (poll_with s k muted)

pub state_goes_on : (k : ℕ) (s : ChipState) (muted : ℕ) (memory : List ℕ) → (sample k (with_muted s muted) memory).state ≡ with_muted (sample k s memory).state muted
unfolding sample
state_goes_on k s muted memory = ap (λ (t : ChipState). (rest_of_sample k t memory).state) (before_voices_with s k muted)

pub records_go_on : (k : ℕ) (s : ChipState) (muted : ℕ) (memory : List ℕ) → (sample k (with_muted s muted) memory).records ≡ (sample k s memory).records
unfolding sample
records_go_on k s muted memory = ap (λ (t : ChipState). (rest_of_sample k t memory).records) (before_voices_with s k muted)

-- a write of a register
pub writes_leave_muted : (s : ChipState) (muted address byte : ℕ) → register_write (with_muted s muted) address byte ≡ with_muted (register_write s address byte) muted
unfolding register_write
writes_leave_muted s muted address byte = by (nat_le 0x80 address)
  where
    registers : List ℕ
    registers = slice_set s.registers address (if address == ENDX then 0 else byte)

    kon_pending : ℕ
    kon_pending = if address == KON then byte else s.hidden.kon_pending

    by : (b : Bool) → (if b then with_muted s muted else record (with_muted s muted) { registers = registers; hidden = record s.hidden { kon_pending = kon_pending } })
        ≡ with_muted (if b then s else record s { registers = registers; hidden = record s.hidden { kon_pending = kon_pending } }) muted
    by true = refl
    by false = refl
