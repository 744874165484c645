-- How many records a sample gives, and a run of one sample.
use Rattle.std.proofs.Common.{◌≡◌, ℕ, ◌+◌, ◌≤◌, List, [], ◌∷◌, Bool, true, false, length, refl, arith, rules, add-zero}
use Rattle.std.specs.Prelude.{if◌then◌else◌}
use Rattle.std.specs.List.{filter}
use Rattle.trace_form.specs.declared.record.Record.{Record}
use Rattle.trace_form.specs.declared.record.Record.TheVariants.{Reg, Port, Voice}
use Rattle.chip_form.specs.Samples.{SampleResult, samples, in_mask}
use Rattle.chip_form.specs.ChipMeaning.{ChipMeaning}
use Rattle.chip_form.specs.ChipLaws.{IsLawfulChip, are_voice_records}

-- a filter keeps no more than there is
pub length-filter-at_most : {X : Type 0} (test : X → Bool) (xs : List X) → length (filter test xs) ≤ length xs
length-filter-at_most test [] = omega arith
length-filter-at_most {X} test (x ∷ xs) = one (test x) (length-filter-at_most test xs)
  where
    one : (b : Bool) → length (filter test xs) ≤ length xs → length (if b then x ∷ filter test xs else filter test xs) ≤ length (x ∷ xs)
    one true h = omega arith
    one false h = omega arith

-- the records of the voices from v to 7 are 8 - v
pub length-are_voice_records : (k v : ℕ) (records : List Record) → are_voice_records k v records ≡ true → length records + v ≡ 8
unfolding are_voice_records
length-are_voice_records k v [] h = let e : v ≡ 8 = search rules in omega arith
length-are_voice_records k v (Voice sample voice level out block keyed ended ∷ rest) h =
    let others : are_voice_records k (v + 1) rest ≡ true = grind (arith, rules) in
    let count = length-are_voice_records k (v + 1) rest others in
    omega arith
length-are_voice_records k v (Reg sample addr value ∷ rest) h = cc
length-are_voice_records k v (Port sample port value ∷ rest) h = cc

-- a sample from a valid state gives at most 8 records under any mask
pub sample_record_count : {S : Type 0} (chip : ChipMeaning S) → IsLawfulChip chip → (mask k : ℕ) (s : S) (memory : List ℕ) → chip.is_valid s ≡ true
    → length (filter (in_mask mask) (chip.one_sample k s memory).records) ≤ 8
sample_record_count chip laws mask k s memory valid =
    let all = length-are_voice_records k 0 (chip.one_sample k s memory).records (laws.gives_voice_records k s memory valid) in
    omega (arith, length-filter-at_most (in_mask mask) (chip.one_sample k s memory).records)

-- a run of one sample is that sample
pub samples_one : {S : Type 0} (sample : ℕ → S → List ℕ → SampleResult S) (k : ℕ) (s : S) (memory : List ℕ)
    → samples sample 1 k s memory ≡ (let made = sample k s memory in record { state = made.state; memory = made.memory; frames = made.frame ∷ []; records = made.records })
unfolding samples
samples_one sample k s memory = rw (add-zero k) refl
