-- What each chip keeps.
use Rattle.std.specs.Prelude.{◌≡◌, ℕ, ◌+◌, ◌<◌, List, [], ◌∷◌, Bool, true, false, not, ◌&&◌, ◌==◌, nat_le}
use Rattle.trace_form.specs.declared.record.Record.{Record}
use Rattle.trace_form.specs.declared.record.Record.TheVariants.{Reg, Port, Voice}
use Rattle.chip_form.specs.Limits.{max_samples_of_batch}
use Rattle.chip_form.specs.ReachLaws.{WritesInside, ReadsInside, ReachStays, RegistersStay}
use Rattle.chip_form.specs.ChipMeaning.{ChipMeaning}

-- whether records are those of the voices from v to 7 in order, in the sample of number k
unfoldable pub are_voice_records : (k v : ℕ) → List Record → Bool
are_voice_records k v [] = v == 8
are_voice_records k v (Voice sample voice level out block keyed ended ∷ rest) =
    sample == k && voice == v && are_voice_records k (v + 1) rest
are_voice_records k v (Reg sample addr value ∷ rest) = false
are_voice_records k v (Port sample port value ∷ rest) = false

-- All laws are of valid states. Those of the last four that are of samples are of at most 64, and a reach is taken before the first of them.
pub record IsLawfulChip {S : Type 0} (chip : ChipMeaning S) : Type 0 where
  -- a write of a register and a sample keep a state valid
  pub write_keeps_valid : (s : S) (address byte : ℕ) → address < 0x100 → byte < 0x100 → chip.is_valid s ≡ true
      → chip.is_valid (chip.register_write s address byte) ≡ true
  pub sample_keeps_valid : (k : ℕ) (s : S) (memory : List ℕ) → chip.is_valid s ≡ true → chip.is_valid (chip.one_sample k s memory).state ≡ true
  -- from a valid state, the sample of number k gives the records of the voices 0 to 7 in order, each with the number k
  pub gives_voice_records : (k : ℕ) (s : S) (memory : List ℕ) → chip.is_valid s ≡ true
      → are_voice_records k 0 (chip.one_sample k s memory).records ≡ true
  -- the samples change memory on write pages alone
  pub writes_inside : WritesInside chip.one_sample chip.reach chip.is_valid
  -- where the reach isn't entangled, a byte put off its read pages changes nothing of what the samples leave and give
  pub reads_inside : ReadsInside chip.one_sample chip.reach chip.is_valid
  -- nor does it change the reach
  pub reach_stays : ReachStays chip.reach (λ s memory. chip.is_valid s && not (chip.reach s memory).entangled)
  -- the samples change no register but those of their results
  pub registers_stay : RegistersStay chip.one_sample chip.register_read chip.is_result (λ n s. nat_le n max_samples_of_batch && chip.is_valid s)
