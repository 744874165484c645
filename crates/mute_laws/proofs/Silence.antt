-- A chip with all voices muted.
use Rattle.std.proofs.Common.{◌≡◌, ℕ, zero, suc, ◌+◌, List, [], ◌∷◌, ◌++◌, ℤ, pos, ◌+ℤ◌, ◌*ℤ◌, Bool, true, false, map, replicate, slice_index, if◌then◌else◌, refl, ap, ◌∙◌}
use Rattle.std.proofs.Math.IntN.{*ℤ-zero, zero-*ℤ}
use Rattle.std.specs.List.{range_with_len}
use Rattle.num_fix.specs.Arithmetic.{clamp16, floor_shift, scaled, wrap16, sign8}
use Rattle.num_fix.specs.declared.Frame.{Frame}
use Rattle.voice_unit.specs.declared.interface.VoiceOut.{VoiceOut}
use Rattle.echo_unit.specs.Echo.{silent_frame, echo_heard, output_frame, side_output}
use Rattle.echo_unit.specs.Flg.{is_muted}
use Rattle.echo_unit.specs.declared.regs.EchoRegs.{EchoRegs}
use Rattle.chip_form.specs.Samples.{samples}
use Rattle.dsp_state.specs.Mix.{shares_at, clamped_sum, main_frame}
use Rattle.dsp_state.specs.Registers.{echo_regs}
use Rattle.dsp_state.specs.Sample.{VoiceResult, results_from, shared_input, before_voices, sample}
use Rattle.dsp_state.specs.Volumes.{no_volumes, heard_volumes, all_volumes}
use Rattle.dsp_state.specs.declared.registers.TheConstants.{EVOLL, EVOLR}
use Rattle.dsp_state.specs.declared.state.ChipState.{ChipState}
use Rattle.dsp_state.specs.declared.volumes.Volumes.{Volumes}
use Rattle.dsp_state.proofs.Inputs.{registers-before_voices, muted-before_voices, same_inputs-sample}
use Rattle.dsp_state.proofs.ReadOnce.{muted-sample}

-- a sum stays 0 where a share is at volume 0
no_share : (out : ℤ) → clamp16 (pos 0 +ℤ scaled out (pos 0) 7) ≡ pos 0
unfolding clamp16 scaled floor_shift
no_share out = rw *ℤ-zero refl

-- a sum over voices that are not heard
no_sum : (volume : Volumes → ℤ) → volume no_volumes ≡ pos 0 → (n : ℕ) (answers : List VoiceOut) → clamped_sum (pos 0) (shares_at volume (replicate n no_volumes) answers) ≡ pos 0
no_sum volume none zero answers = refl
no_sum volume none (suc n) [] = refl
no_sum volume none (suc n) (answer ∷ answers) = rw (none, no_share answer.out) (no_sum volume none n answers)

-- all voices muted
none_heard : (registers : List ℕ) → all_volumes registers 0xff ≡ replicate 8 no_volumes
unfolding all_volumes heard_volumes
none_heard registers = refl

main_silent : (registers : List ℕ) (answers : List VoiceOut) → main_frame (all_volumes registers 0xff) answers ≡ silent_frame
unfolding main_frame
main_silent registers answers =
    let left : clamped_sum (pos 0) (shares_at (λ (one : Volumes). one.left) (all_volumes registers 0xff) answers) ≡ pos 0 = rw none_heard (no_sum (λ (one : Volumes). one.left) refl 8 answers) in
    let right : clamped_sum (pos 0) (shares_at (λ (one : Volumes). one.right) (all_volumes registers 0xff) answers) ≡ pos 0 = rw none_heard (no_sum (λ (one : Volumes). one.right) refl 8 answers) in
    λ i. record { left = left i; right = right i }

-- a side without a main sum and without an echo
side_silent : (main_volume : ℕ) (echo : ℤ) → side_output (pos 0) main_volume echo 0 ≡ pos 0
unfolding side_output scaled floor_shift wrap16 sign8 clamp16
side_silent main_volume echo = rw (zero-*ℤ, *ℤ-zero) refl

frame_silent : (regs : EchoRegs) (echo : Frame) → regs.evol_l ≡ 0 → regs.evol_r ≡ 0 → output_frame regs silent_frame echo ≡ silent_frame
unfolding output_frame
frame_silent regs echo left right =
    rw (left, right, side_silent regs.mvol_l echo.left, side_silent regs.mvol_r echo.right) (by (is_muted regs.flg))
  where
    by : (b : Bool) → (if b then silent_frame else silent_frame) ≡ silent_frame
    by true = refl
    by false = refl

-- a chip with all voices muted and the echo at volume 0
record IsSilenced (s : ChipState) : Type 0 where
  muted : s.muted ≡ 0xff
  left : slice_index s.registers EVOLL ≡ 0
  right : slice_index s.registers EVOLR ≡ 0

stays_silenced : (k : ℕ) (s : ChipState) (memory : List ℕ) → IsSilenced s → IsSilenced (sample k s memory).state
stays_silenced k s memory silenced = record {
  muted = muted-sample k s memory ∙ silenced.muted;
  left = same_inputs-sample k s memory EVOLL refl ∙ silenced.left;
  right = same_inputs-sample k s memory EVOLR refl ∙ silenced.right;
}

frame_of_silenced : (k : ℕ) (s : ChipState) (memory : List ℕ) → IsSilenced s → (sample k s memory).frame ≡ silent_frame
unfolding sample echo_regs
frame_of_silenced k s memory silenced =
    let now : ChipState = before_voices s k in
    let answers : List VoiceOut = map (λ (result : VoiceResult). result.answer) (results_from (shared_input now memory k) 0 (pos 0) now.hidden.voices) in
    let muted : now.muted ≡ 0xff = muted-before_voices s k ∙ silenced.muted in
    let left : slice_index now.registers EVOLL ≡ 0 = ap (λ (rs : List ℕ). slice_index rs EVOLL) (registers-before_voices s k) ∙ silenced.left in
    let right : slice_index now.registers EVOLR ≡ 0 = ap (λ (rs : List ℕ). slice_index rs EVOLR) (registers-before_voices s k) ∙ silenced.right in
    let regs : EchoRegs = echo_regs now.registers in
    rw (muted, main_silent now.registers answers) (frame_silent regs (echo_heard now.hidden.echo regs memory) left right)

state_silenced : (n k : ℕ) (s : ChipState) (memory : List ℕ) → IsSilenced s → IsSilenced (samples sample n k s memory).state
unfolding samples
state_silenced zero k s memory silenced = silenced
state_silenced (suc n) k s memory silenced = stays_silenced (k + n) (samples sample n k s memory).state (samples sample n k s memory).memory (state_silenced n k s memory silenced)

one_more_silent : (n : ℕ) → replicate n silent_frame ++ silent_frame ∷ [] ≡ replicate (suc n) silent_frame
one_more_silent zero = refl
one_more_silent (suc n) = ap (λ (frames : List Frame). silent_frame ∷ frames) (one_more_silent n)

pub all_muted_is_silent : (n k : ℕ) (s : ChipState) (memory : List ℕ) → s.muted ≡ 0xff → slice_index s.registers EVOLL ≡ 0 → slice_index s.registers EVOLR ≡ 0
    → (samples sample n k s memory).frames ≡ replicate n silent_frame
unfolding samples
all_muted_is_silent zero k s memory muted left right = refl
all_muted_is_silent (suc n) k s memory muted left right =
    let silenced : IsSilenced (samples sample n k s memory).state = state_silenced n k s memory record { muted = muted; left = left; right = right } in
    rw (all_muted_is_silent n k s memory muted left right, frame_of_silenced (k + n) (samples sample n k s memory).state (samples sample n k s memory).memory silenced) (one_more_silent n)
