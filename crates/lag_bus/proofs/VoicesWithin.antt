-- The records of samples, one after another: of voices, with their numbers.
use Rattle.std.proofs.Common.{◌≡◌, ℕ, zero, suc, ◌+◌, ◌≤◌, List, [], ◌∷◌, true, arith, rules}
use Rattle.trace_form.specs.declared.record.Record.{Record}
use Rattle.trace_form.specs.declared.record.Record.TheVariants.{Reg, Port, Voice}
use Rattle.chip_form.specs.Samples.{SampleResult, SamplesResult, samples}
use Rattle.chip_form.specs.ChipMeaning.{ChipMeaning}
use Rattle.chip_form.specs.ChipLaws.{IsLawfulChip, are_voice_records}
use Rattle.chip_form.proofs.LawfulSamples.{is_valid-samples}
use Rattle.lag_bus.specs.Each.{Each, IsVoiceWithin}
use Rattle.lag_bus.proofs.MergedRecords.{Each-append, Each-map}

-- the records of a sample are of voices and have its number
pub voices_within : (k v : ℕ) (records : List Record) → are_voice_records k v records ≡ true → Each (IsVoiceWithin k (k + 1)) records
unfolding are_voice_records
voices_within k v [] h = tt
voices_within k v (Voice sample voice level out block keyed ended ∷ rest) h =
    let same : sample ≡ k = grind (arith, rules) in
    let others : are_voice_records k (v + 1) rest ≡ true = grind (arith, rules) in
    ((omega arith, omega arith), voices_within k (v + 1) rest others)
voices_within k v (Reg sample addr value ∷ rest) h = cc
voices_within k v (Port sample port value ∷ rest) h = cc

within_wider : (a b c d : ℕ) → c ≤ a → b ≤ d → (item : Record) → IsVoiceWithin a b item → IsVoiceWithin c d item
within_wider a b c d h g (Voice sample voice level out block keyed ended) w = (omega arith, omega arith)
within_wider a b c d h g (Reg sample addr value) w = w
within_wider a b c d h g (Port sample port value) w = w

-- and so have those of several samples
pub voices_within-samples : {S : Type 0} (chip : ChipMeaning S) → IsLawfulChip chip → (n k : ℕ) (s : S) (memory : List ℕ) → chip.is_valid s ≡ true
    → Each (IsVoiceWithin k (k + n)) (samples chip.one_sample n k s memory).records
unfolding samples
voices_within-samples chip laws zero k s memory valid = tt
voices_within-samples {S} chip laws (suc n) k s memory valid =
    let before : SamplesResult S = samples chip.one_sample n k s memory in
    let made : SampleResult S = chip.one_sample (k + n) before.state before.memory in
    let first = Each-map (IsVoiceWithin k (k + n)) (IsVoiceWithin k (k + suc n)) (within_wider k (k + n) k (k + suc n) (omega arith) (omega arith)) before.records (voices_within-samples chip laws n k s memory valid) in
    let new = voices_within (k + n) 0 made.records (laws.gives_voice_records (k + n) before.state before.memory (is_valid-samples chip laws n k s memory valid)) in
    Each-append (IsVoiceWithin k (k + suc n)) before.records made.records first
    (Each-map (IsVoiceWithin (k + n) (k + n + 1)) (IsVoiceWithin k (k + suc n)) (within_wider (k + n) (k + n + 1) k (k + suc n) (omega arith) (omega arith)) made.records new)
