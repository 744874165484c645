-- Samples leave every register but those of their results.
use Rattle.std.proofs.Common.{◌≡◌, ℕ, zero, suc, ◌+◌, ◌%◌, List, false, refl, ◌∙◌, arith}
use Rattle.dsp_state.specs.Results.{is_result}
use Rattle.chip_form.specs.Samples.{samples}
use Rattle.dsp_state.specs.Sample.{sample}
use Rattle.dsp_state.specs.Outside.{register_read}
use Rattle.dsp_state.specs.declared.state.ChipState.{ChipState}
use Rattle.dsp_state.proofs.Inputs.{SameInputs, same_inputs-sample}

-- n samples change no other register
pub same_inputs-samples : (n k : ℕ) (s : ChipState) (memory : List ℕ) → SameInputs (samples sample n k s memory).state.registers s.registers
unfolding samples
same_inputs-samples zero k s memory address h = refl
same_inputs-samples (suc n) k s memory address h =
    let now = samples sample n k s memory in
    same_inputs-sample (k + n) now.state now.memory address h ∙ same_inputs-samples n k s memory address h

-- seen from outside
pub registers_stay : (n k : ℕ) (s : ChipState) (memory : List ℕ) (address : ℕ) → is_result address ≡ false
    → register_read (samples sample n k s memory).state address ≡ register_read s address
unfolding register_read
registers_stay n k s memory address h =
    let same : address % 0x80 % 0x80 ≡ address % 0x80 = omega arith in
    same_inputs-samples n k s memory (address % 0x80) (rw same h)
