-- A batch whose voices read nothing that its echo writes is one by rows.
use Rattle.std.proofs.Common.{◌≡◌, ℕ, zero, suc, ◌+◌, List, pos, slice_index, refl, ap, sym, ◌∙◌, arith}
use Rattle.voice_unit.specs.Voice.{VoiceState}
use Rattle.echo_unit.specs.Echo.{EchoState}
use Rattle.chip_form.specs.Samples.{SamplesResult, samples, one_more}
use Rattle.dsp_state.specs.Sample.{SharedInput, results_from, shared_input, sample, before_voices}
use Rattle.dsp_state.specs.declared.registers.TheConstants.{FLG}
use Rattle.dsp_state.specs.declared.state.ChipState.{ChipState}
use Rattle.dsp_state.proofs.Inputs.{SameInputs, registers-before_voices}
use Rattle.reach_laws.proofs.Registers.{same_inputs-samples}
use Rattle.batch_rows.specs.Lane.{lanes, voices_after}
use Rattle.echo_unit.specs.EchoOverBatch.{EchoOver}
use Rattle.batch_rows.specs.Rows.{keys_after, inputs, answers, results_after, echo_after, with_parts, by_rows}
use Rattle.batch_rows.specs.Apart.{VoicesReadTheSame}
use Rattle.batch_rows.proofs.Lanes.{voices_after-zero, voices_after-suc, results_from-lanes}
use Rattle.batch_rows.proofs.SameInputs.{same_results}
use Rattle.batch_rows.proofs.OneMore.{before_voices-with_parts, registers-keys_after, muted-keys_after, sample_of_parts}

-- what all voices of a batch by rows read in sample n is what the chip's keys and noise make of it
inputs_are : (k : ℕ) (s : ChipState) (memory : List ℕ) (n : ℕ) → inputs k s memory n ≡ shared_input (before_voices (keys_after k s n) (k + n)) memory (k + n)
unfolding inputs keys_after
inputs_are k s memory n = refl

-- what the voices read from where a batch by rows has come, over the memory from before the batch
results_of_parts : (s : ChipState) (memory : List ℕ) (n k : ℕ) (registers : List ℕ) (voices : List VoiceState) (echo : EchoState) → SameInputs registers s.registers
    → results_from (shared_input (before_voices (with_parts (keys_after k s n) registers voices echo) (k + n)) memory (k + n)) 0 (pos 0) voices
    ≡ results_from (inputs k s memory n) 0 (pos 0) voices
results_of_parts s memory n k registers voices echo same = rw parts whole
  where
    own : (keys_after k s n).registers ≡ s.registers
    own = registers-keys_after k s n

    flg : slice_index registers FLG ≡ slice_index (keys_after k s n).registers FLG
    flg = rw own (same FLG refl)

    next : ChipState
    next = before_voices (keys_after k s n) (k + n)

    parts : before_voices (with_parts (keys_after k s n) registers voices echo) (k + n) ≡ with_parts next registers voices echo
    parts = before_voices-with_parts (keys_after k s n) (k + n) registers voices echo flg

    registers_same : SameInputs registers next.registers
    registers_same = λ address h. same address h ∙ ap (λ (rs : List ℕ). slice_index rs address) (sym (registers-before_voices (keys_after k s n) (k + n) ∙ own))

    whole : results_from (shared_input (with_parts next registers voices echo) memory (k + n)) 0 (pos 0) voices ≡ results_from (inputs k s memory n) 0 (pos 0) voices
    whole = same_results registers next.registers registers_same (shared_input next memory (k + n)) 0 (pos 0) voices
        ∙ ap (λ (one : SharedInput). results_from one 0 (pos 0) voices) (sym (inputs_are k s memory n))

no_more : (k : ℕ) (s : ChipState) (memory : List ℕ) → samples sample zero k s memory ≡ by_rows zero k s memory
unfolding samples by_rows keys_after echo_after
no_more k s memory = rw (voices_after-zero (inputs k s memory) 0 (λ j. pos 0) s.hidden.voices) refl

-- that the voices of sample n give the same over the memory from before the batch
abbrev GivesTheSame : (n k : ℕ) → ChipState → (memory : List ℕ) → SamplesResult ChipState → Type 0
GivesTheSame n k s memory now =
    results_from (shared_input (before_voices now.state (k + n)) now.memory (k + n)) 0 (pos 0) now.state.hidden.voices
    ≡ results_from (shared_input (before_voices now.state (k + n)) memory (k + n)) 0 (pos 0) now.state.hidden.voices

-- one sample more, from where a batch by rows has come
one_more_row : (s : ChipState) (memory : List ℕ) (n k : ℕ) → SameInputs (by_rows n k s memory).state.registers s.registers
    → GivesTheSame n k s memory (by_rows n k s memory)
    → one_more sample (k + n) (by_rows n k s memory) ≡ by_rows (suc n) k s memory
unfolding by_rows keys_after echo_after answers
one_more_row s memory n k same apart =
    let rows : ℕ → SharedInput = inputs k s memory in
    let voices : List VoiceState = voices_after rows 0 (λ j. pos 0) s.hidden.voices n in
    let registers : List ℕ = results_after (answers k s memory) s.registers n in
    let done : EchoOver = echo_after k s memory n in
    let flg : slice_index registers FLG ≡ slice_index (keys_after k s n).registers FLG =
    same FLG refl ∙ ap (λ (rs : List ℕ). slice_index rs FLG) (sym (registers-keys_after k s n)) in
    let gives = apart ∙ results_of_parts s memory n k registers voices done.echo same
    ∙ results_from-lanes rows 0 (λ j. pos 0) s.hidden.voices n in
    rw (
      sample_of_parts (keys_after k s n) (k + n) s.registers registers voices done.echo done.memory (lanes rows 0 (λ j. pos 0) s.hidden.voices n) s.muted (muted-keys_after k s n) same flg gives,
      voices_after-suc rows 0 (λ j. pos 0) s.hidden.voices n,
    ) refl

-- samples whose voices read nothing that the echo writes are those by rows
pub samples_by_rows : (n k : ℕ) (s : ChipState) (memory : List ℕ) → VoicesReadTheSame n k s memory → samples sample n k s memory ≡ by_rows n k s memory
unfolding samples
samples_by_rows zero k s memory apart = no_more k s memory
samples_by_rows (suc n) k s memory apart =
    let before : samples sample n k s memory ≡ by_rows n k s memory = samples_by_rows n k s memory (λ j below. apart j (omega arith)) in
    let last : GivesTheSame n k s memory (samples sample n k s memory) = apart n (omega arith) in
    let same : SameInputs (samples sample n k s memory).state.registers s.registers = same_inputs-samples n k s memory in
    rw before (one_more_row s memory n k (rw before at same) (rw before at last))
