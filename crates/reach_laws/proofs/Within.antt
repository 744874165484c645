-- The laws of the chip over up to 64 samples from a valid state, by the reach taken before the first of them.
use Rattle.std.proofs.Common.{◌≡◌, ℕ, ◌≤◌, List, true, false}
use Rattle.std.specs.FinSet as set
use Rattle.aram_core.specs.Memory.{byte_at, with_byte}
use Rattle.aram_core.specs.Pages.{page_of}
use Rattle.dsp_state.specs.Reach.{chip_reach}
use Rattle.chip_form.specs.Samples.{samples}
use Rattle.dsp_state.specs.Sample.{sample}
use Rattle.dsp_state.specs.Valid.{is_valid}
use Rattle.dsp_state.specs.declared.state.ChipState.{ChipState}
use Rattle.chip_form.proofs.AfterSamples.{samples_keep, samples_apart}
use Rattle.reach_laws.proofs.OneSample.{StaysInReach, stays_at_start, stays_in_reach, reads_in_reach}

-- what holds after n samples
pub stays_in_samples : (n k : ℕ) (s : ChipState) (memory : List ℕ) → n ≤ 64 → is_valid s ≡ true → StaysInReach s memory n (samples sample n k s memory).state (samples sample n k s memory).memory
stays_in_samples n k s memory few valid =
    samples_keep sample (StaysInReach s memory) (λ j number now later below stays. stays_in_reach s memory j number now later below stays) n k s memory few (stays_at_start s memory valid)

-- the samples change memory on write pages alone
pub writes_inside : (n k : ℕ) (s : ChipState) (memory : List ℕ) (at : ℕ) → n ≤ 64 → is_valid s ≡ true
    → set.contains (chip_reach s memory).write_pages (page_of at) ≡ false
    → byte_at (samples sample n k s memory).memory at ≡ byte_at memory at
writes_inside n k s memory at few valid none = (stays_in_samples n k s memory few valid).bytes at none

-- where the reach isn't entangled, a byte put outside its read pages changes nothing of what the samples do
pub reads_inside : (n k : ℕ) (s : ChipState) (memory : List ℕ) (at value : ℕ) → n ≤ 64 → is_valid s ≡ true
    → (chip_reach s memory).entangled ≡ false
    → set.contains (chip_reach s memory).read_pages (page_of at) ≡ false
    → samples sample n k s (with_byte memory at value) ≡ record (samples sample n k s memory) { memory = with_byte (samples sample n k s memory).memory at value }
reads_inside n k s memory at value few valid clear none =
    samples_apart sample (StaysInReach s memory) at value
    (λ j number now later below stays. stays_in_reach s memory j number now later below stays)
    (λ j number now later below stays. reads_in_reach s memory j number now later at value below stays clear none)
    n k s memory few (stays_at_start s memory valid)
