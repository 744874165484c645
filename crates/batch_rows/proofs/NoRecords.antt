-- No record of a voice is in the mask 0.
use Rattle.std.proofs.Common.{◌≡◌, ℕ, zero, suc, ◌+◌, List, [], ◌∷◌, false, refl}
use Rattle.std.proofs.lemmas.List.Elements.{filter-append}
use Rattle.std.proofs.Math.Nat.{zero-div}
use Rattle.std.specs.List.{filter}
use Rattle.num_fix.specs.Arithmetic.{has_bit}
use Rattle.voice_unit.specs.declared.interface.VoiceOut.{VoiceOut}
use Rattle.chip_form.specs.Samples.{samples, in_mask}
use Rattle.dsp_state.specs.declared.state.ChipState.{ChipState}
use Rattle.dsp_state.specs.Sample.{records_from, sample}

-- 0 has no bit
no_bit : (v : ℕ) → has_bit 0 v ≡ false
no_bit v = rw zero-div refl

-- so no record of a voice is kept
pub none_in_mask : (k v : ℕ) (answers : List VoiceOut) → filter (in_mask 0) (records_from k v answers) ≡ []
none_in_mask k v [] = refl
none_in_mask k v (answer ∷ answers) = rw (no_bit v) (none_in_mask k (v + 1) answers)

-- nor is one of several samples
pub no_records : (n k : ℕ) (s : ChipState) (memory : List ℕ) → filter (in_mask 0) (samples sample n k s memory).records ≡ []
unfolding samples sample
no_records zero k s memory = refl
no_records (suc n) k s memory = rw (filter-append, no_records n k s memory, none_in_mask) refl
