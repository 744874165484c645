-- Where the reach isn't entangled, where the cells have no byte that a voice can read, and where echo writes are off, the voices of a batch read
-- nothing that its echo writes.
use Rattle.std.proofs.Common.{◌≡◌, ℕ, zero, suc, ◌+◌, ◌%◌, ◌==◌, ◌≤◌, List, true, false, pos, map, slice_index, refl, ap, ◌∙◌, arith}
use Rattle.std.proofs.lemmas.Bool.{and_parts}
use Rattle.num_fix.specs.Arithmetic.{has_bit}
use Rattle.aram_core.specs.Pages.{page_of}
use Rattle.chip_form.specs.Samples.{SamplesResult, samples}
use Rattle.echo_unit.specs.Flg.{has_echo_writes}
use Rattle.dsp_state.specs.Registers.{echo_regs}
use Rattle.dsp_state.specs.Mix.{sent_frame}
use Rattle.dsp_state.specs.Volumes.{all_volumes}
use Rattle.dsp_state.specs.Sample.{VoiceResult, results_from, shared_input, sample, before_voices}
use Rattle.dsp_state.specs.declared.registers.TheConstants.{FLG}
use Rattle.reach_laws.proofs.Registers.{same_inputs-samples}
use Rattle.echo_unit.proofs.ApartFromCell.{echo_memory_still}
use Rattle.dsp_state.specs.Valid.{is_valid}
use Rattle.dsp_state.specs.Reach.{chip_reach}
use Rattle.dsp_state.specs.declared.state.ChipState.{ChipState}
use Rattle.dsp_state.proofs.Inputs.{SameInputs, registers-before_voices}
use Rattle.reach_laws.specs.Chain.{AllStayOnChains}
use Rattle.reach_laws.specs.CellsMiss.{CellsMissVoices}
use Rattle.reach_laws.proofs.Keys.{IsPart, latched_was_pending}
use Rattle.reach_laws.proofs.ReachOfChip.{voices_unwritten}
use Rattle.reach_laws.proofs.Same.{AllSameFor}
use Rattle.reach_laws.proofs.Voices.{FindTheSame, all_same, results_same}
use Rattle.reach_laws.proofs.ByBytes.{AreCells, StaysByBytes, stays_by_bytes, all_missed}
use Rattle.reach_laws.proofs.OneSample.{StaysInReach}
use Rattle.reach_laws.proofs.Within.{stays_in_samples}
use Rattle.batch_rows.specs.Apart.{VoicesReadTheSame}

-- voices on their chains that find the same bytes as before the batch give the same
read_the_same : (s : ChipState) (memory : List ℕ) (j k : ℕ) (now : SamplesResult ChipState) → j ≤ 64 → SameInputs now.state.registers s.registers
    → IsPart now.state.hidden.kon_pending s.hidden.kon_pending → AllStayOnChains s memory j 0 s.hidden.voices now.state.hidden.voices → AllSameFor s memory j 0 s.hidden.voices now.memory memory
    → results_from (shared_input (before_voices now.state (k + j)) now.memory (k + j)) 0 (pos 0) now.state.hidden.voices
    ≡ results_from (shared_input (before_voices now.state (k + j)) memory (k + j)) 0 (pos 0) now.state.hidden.voices
read_the_same s memory j k now few inputs kon_pending stay same =
    results_same s memory j 0 (pos 0) (shared_input (before_voices now.state (k + j)) memory (k + j)) now.memory s.hidden.voices now.state.hidden.voices find stay same
  where
    find : FindTheSame s memory j 0 s.hidden.voices (shared_input (before_voices now.state (k + j)) memory (k + j))
    find = record {
      registers = λ address h. ap (λ (registers : List ℕ). slice_index registers address) (registers-before_voices now.state (k + j)) ∙ inputs address h;
      bytes = all_same s memory j 0 s.hidden.voices memory memory few (λ at there. refl);
      keyed = λ v keyed.
          let both = and_parts ((k + j) % 2 == 0) (has_bit (before_voices now.state (k + j)).hidden.kon_latched v) keyed in
          kon_pending v (latched_was_pending now.state (k + j) v both.0 both.1);
    }

-- where the reach isn't entangled
pub reach_keeps_apart : (n k : ℕ) (s : ChipState) (memory : List ℕ) → n ≤ 64 → is_valid s ≡ true → (chip_reach s memory).entangled ≡ false → VoicesReadTheSame n k s memory
reach_keeps_apart n k s memory few valid clear j below =
    let now : SamplesResult ChipState = samples sample j k s memory in
    let stays : StaysInReach s memory j now.state now.memory = stays_in_samples j k s memory (omega (arith, few, below)) valid in
    let same : AllSameFor s memory j 0 s.hidden.voices now.memory memory =
    all_same s memory j 0 s.hidden.voices now.memory memory (omega (arith, few, below)) (λ at there. stays.bytes at (voices_unwritten s memory (page_of at) clear there)) in
    read_the_same s memory j k now (omega (arith, few, below)) stays.inputs stays.kon_pending (stays.voices clear) same

-- and where the cells have no byte that a voice can read in the samples
pub bytes_keep_apart : (cell : ℕ → ℕ) (n k : ℕ) (s : ChipState) (memory : List ℕ) → AreCells cell s n → n ≤ 64 → is_valid s ≡ true → CellsMissVoices cell s memory n 0 s.hidden.voices → VoicesReadTheSame n k s memory
bytes_keep_apart cell n k s memory are few valid miss j below =
    let now : SamplesResult ChipState = samples sample j k s memory in
    let stays : StaysByBytes s memory j now.state now.memory = stays_by_bytes cell s memory n are miss j k (omega (arith, below)) few valid in
    read_the_same s memory j k now (omega (arith, few, below)) stays.inputs stays.kon_pending stays.voices (all_missed cell s memory now.memory n j are below stays.bytes 0 s.hidden.voices miss)

-- while echo writes are off, samples leave the memory as it is
memory-samples : (n k : ℕ) (s : ChipState) (memory : List ℕ) → has_echo_writes (slice_index s.registers FLG) ≡ false → (samples sample n k s memory).memory ≡ memory
unfolding samples sample echo_regs
memory-samples zero k s memory off = refl
memory-samples (suc n) k s memory off =
    let now : SamplesResult ChipState = samples sample n k s memory in
    let next : ChipState = before_voices now.state (k + n) in
    let same : slice_index next.registers FLG ≡ slice_index s.registers FLG =
    ap (λ (registers : List ℕ). slice_index registers FLG) (registers-before_voices now.state (k + n)) ∙ same_inputs-samples n k s memory FLG refl in
    let still : has_echo_writes (slice_index next.registers FLG) ≡ false = ap has_echo_writes same ∙ off in
    echo_memory_still next.hidden.echo (echo_regs next.registers) now.memory
    (sent_frame (all_volumes next.registers next.muted) (map (λ (result : VoiceResult). result.answer) (results_from (shared_input next now.memory (k + n)) 0 (pos 0) next.hidden.voices))) still
    ∙ memory-samples n k s memory off

-- and so the voices read the same
pub still_keeps_apart : (n k : ℕ) (s : ChipState) (memory : List ℕ) → has_echo_writes (slice_index s.registers FLG) ≡ false → VoicesReadTheSame n k s memory
still_keeps_apart n k s memory off j below =
    let now : SamplesResult ChipState = samples sample j k s memory in
    ap (λ (m : List ℕ). results_from (shared_input (before_voices now.state (k + j)) m (k + j)) 0 (pos 0) now.state.hidden.voices) (memory-samples j k s memory off)
