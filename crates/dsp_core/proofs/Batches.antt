-- Samples whose voices read the same are those by rows; samples after samples; and samples keep a state valid, and the settings.
use Rattle.std.proofs.Common.{◌≡◌, ℕ, zero, suc, ◌+◌, ◌-◌, ◌*◌, ◌<◌, ◌≤◌, ◌++◌, List, length, true, refl, sym, ap, ◌∙◌, arith, append_assoc, length-append}
use Rattle.std.specs.List.{filter}
use Rattle.std.proofs.lemmas.List.{append-nil}
use Rattle.num_fix.specs.declared.Frame.{Frame}
use Rattle.trace_form.specs.Capacities.{frame_capacity, record_capacity}
use Rattle.trace_form.specs.declared.record.Record.{Record}
use Rattle.dsp_state.specs.Sample.{sample}
use Rattle.dsp_state.specs.Settings.{settings_of}
use Rattle.chip_form.specs.Samples.{SamplesResult, samples, one_more, in_mask}
use Rattle.chip_form.proofs.OneMoreSample.{samples_none, samples_more}
use Rattle.chip_form.proofs.LawfulSamples.{frame_count_of_samples, voices_of_mask}
use Rattle.dsp_state.specs.Valid.{is_valid}
use Rattle.dsp_state.specs.declared.state.ChipState.{ChipState}
use Rattle.dsp_state.proofs.ReadOnce.{settings_of-sample}
use Rattle.dsp_state.proofs.Valid.{is_valid-sample}
use Rattle.batch_rows.specs.Apart.{VoicesReadTheSame}
use Rattle.batch_rows.specs.Rows.{by_rows}
use Rattle.batch_rows.proofs.ByRows.{samples_by_rows}
use Rattle.dsp_core.specs.DspChip.{dsp_chip}
use Rattle.dsp_core.specs.DspLaws.{dsp_is_lawful}

pub by_rows-samples : (n k : ℕ) (s : ChipState) (memory : List ℕ) → VoicesReadTheSame n k s memory → by_rows n k s memory ≡ samples sample n k s memory
by_rows-samples n k s memory apart = sym (samples_by_rows n k s memory apart)

-- what some samples leave and give, and more samples after them
abbrev pub and_then : SamplesResult ChipState → SamplesResult ChipState → SamplesResult ChipState
and_then some more = record { state = more.state; memory = more.memory; frames = some.frames ++ more.frames; records = some.records ++ more.records }

-- n samples after p samples
pub samples_after : (p n k : ℕ) (s : ChipState) (memory : List ℕ)
    → (let before = samples sample p k s memory in samples sample (p + n) k s memory ≡ and_then before (samples sample n (k + p) before.state before.memory))
samples_after p zero k s memory =
    let e : p + 0 ≡ p = omega arith in
    ap (λ (j : ℕ). samples sample j k s memory) e ∙ simp (samples_none, append-nil) refl
samples_after p (suc n) k s memory =
    let before = samples sample p k s memory in
    let more = samples sample n (k + p) before.state before.memory in
    let rest = samples_after p n k s memory in
    let e : p + suc n ≡ p + n + 1 = omega arith in
    let one : suc n ≡ n + 1 = omega arith in
    let number : k + (p + n) ≡ k + p + n = omega arith in
    let last : one_more sample (k + p + n) (and_then before more) ≡ and_then before (one_more sample (k + p + n) more) = simp append_assoc refl in
    ap (λ (j : ℕ). samples sample j k s memory) e
    ∙ samples_more sample (p + n) k s memory
    ∙ (λ i. one_more sample (number i) (rest i))
    ∙ last
    ∙ ap (λ (r : SamplesResult ChipState). and_then before r) (sym (samples_more sample n (k + p) before.state before.memory))
    ∙ ap (λ (j : ℕ). and_then before (samples sample j (k + p) before.state before.memory)) (sym one)

pub is_valid-samples : (n k : ℕ) (s : ChipState) (memory : List ℕ) → is_valid s ≡ true → is_valid (samples sample n k s memory).state ≡ true
unfolding samples
is_valid-samples zero k s memory valid = valid
is_valid-samples (suc n) k s memory valid = is_valid-sample (k + n) (samples sample n k s memory).state (samples sample n k s memory).memory (is_valid-samples n k s memory valid)

pub settings_of-samples : (n k : ℕ) (s : ChipState) (memory : List ℕ)
    → settings_of (samples sample n k s memory).state.registers (samples sample n k s memory).state.muted ≡ settings_of s.registers s.muted
unfolding samples
settings_of-samples zero k s memory = refl
settings_of-samples (suc n) k s memory = settings_of-sample (k + n) (samples sample n k s memory).state (samples sample n k s memory).memory ∙ settings_of-samples n k s memory

-- the rest of n samples has room where all of them had
pub frames_fit : (frames before : List Frame) (n made k : ℕ) (s : ChipState) (memory : List ℕ) → frames ≡ before ++ (samples sample made k s memory).frames
    → length before + n ≤ frame_capacity → made < n → length frames + (n - made) ≤ frame_capacity
frames_fit frames before n made k s memory are room some =
    let long : length frames ≡ length before + length (samples sample made k s memory).frames = ap (λ (fs : List Frame). length fs) are ∙ length-append before (samples sample made k s memory).frames in
    let count : length (samples sample made k s memory).frames ≡ made = frame_count_of_samples sample made k s memory in
    omega (arith, long, count, room, some)

pub records_fit : (records before : List Record) (mask n made k : ℕ) (s : ChipState) (memory : List ℕ) → is_valid s ≡ true
    → records ≡ before ++ filter (in_mask mask) (samples sample made k s memory).records → length before + 8 * n ≤ record_capacity → made < n → length records + 8 * (n - made) ≤ record_capacity
records_fit records before mask n made k s memory valid are room some =
    let more : List Record = filter (in_mask mask) (samples sample made k s memory).records in
    let long : length records ≡ length before + length more = ap (λ (rs : List Record). length rs) are ∙ length-append before more in
    let count : length more ≤ 8 * made = voices_of_mask dsp_chip dsp_is_lawful made mask k s memory valid in
    omega (arith, long, count, room, some)
