-- What samples of a lawful chip keep and give, one after another.
use Rattle.std.proofs.Common.{◌≡◌, ℕ, zero, suc, ◌+◌, ◌*◌, ◌≤◌, List, length, true, refl, arith, add-one, length-append}
use Rattle.std.specs.List.{filter}
use Rattle.chip_form.specs.Samples.{SampleResult, SamplesResult, samples, in_mask}
use Rattle.chip_form.specs.ChipMeaning.{ChipMeaning}
use Rattle.chip_form.specs.ChipLaws.{IsLawfulChip}
use Rattle.chip_form.proofs.RecordCounts.{length-are_voice_records, length-filter-at_most}

pub frame_count_of_samples : {S : Type 0} (sample : ℕ → S → List ℕ → SampleResult S) (n k : ℕ) (s : S) (memory : List ℕ) → length (samples sample n k s memory).frames ≡ n
unfolding samples
frame_count_of_samples sample zero k s memory = refl
frame_count_of_samples sample (suc n) k s memory = rw length-append (rw (frame_count_of_samples sample n k s memory) (add-one n))

module _ {S : Type 0} (chip : ChipMeaning S) (laws : IsLawfulChip chip) where
  pub is_valid-samples : (n k : ℕ) (s : S) (memory : List ℕ) → chip.is_valid s ≡ true → chip.is_valid (samples chip.one_sample n k s memory).state ≡ true
  unfolding samples
  is_valid-samples zero k s memory valid = valid
  is_valid-samples (suc n) k s memory valid =
      let before = samples chip.one_sample n k s memory in
      laws.sample_keeps_valid (k + n) before.state before.memory (is_valid-samples n k s memory valid)

  pub length-voices-samples : (n k : ℕ) (s : S) (memory : List ℕ) → chip.is_valid s ≡ true → length (samples chip.one_sample n k s memory).records ≡ 8 * n
  unfolding samples
  length-voices-samples zero k s memory valid = refl
  length-voices-samples (suc n) k s memory valid =
      let before : SamplesResult S = samples chip.one_sample n k s memory in
      let made : SampleResult S = chip.one_sample (k + n) before.state before.memory in
      let some : length before.records ≡ 8 * n = length-voices-samples n k s memory valid in
      let more : length made.records + 0 ≡ 8 = length-are_voice_records (k + n) 0 made.records (laws.gives_voice_records (k + n) before.state before.memory (is_valid-samples n k s memory valid)) in
      rw length-append (omega arith)

  -- at most as many of them are of the voices in a mask
  pub voices_of_mask : (n mask k : ℕ) (s : S) (memory : List ℕ) → chip.is_valid s ≡ true → length (filter (in_mask mask) (samples chip.one_sample n k s memory).records) ≤ 8 * n
  voices_of_mask n mask k s memory valid =
      omega (arith, length-filter-at_most (in_mask mask) (samples chip.one_sample n k s memory).records, length-voices-samples n k s memory valid)
