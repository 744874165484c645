-- Registers that differ in volumes of muted voices alone: what is read of them, and what a store leaves.
use Rattle.std.proofs.Common.{◌≡◌, ◌≢◌, ℕ, ◌+◌, ◌*◌, ◌/◌, ◌%◌, ◌<◌, ◌≤◌, ◌==◌, ◌&&◌, ◌||◌, nat_lt, List, [], ◌∷◌, Bool, true, false, map, length, slice_index, slice_set, if◌then◌else◌, refl, ap, sym, ◌∙◌, arith}
use Rattle.std.proofs.lemmas.Bool.Decides.{nat_tests}
use Rattle.std.proofs.lemmas.List.{length-set, set_past, get_or-set_same, get_or-set_other}
use Rattle.std.specs.List.{range_with_len}
use Rattle.num_fix.specs.Arithmetic.{has_bit}
use Rattle.voice_unit.specs.declared.interface.VoiceOut.{VoiceOut}
use Rattle.dsp_state.specs.Registers.{voice_register, voice_regs, echo_regs}
use Rattle.dsp_state.specs.Results.{with_levels_from, registers_after, next_endx}
use Rattle.dsp_state.specs.Volumes.{no_volumes, voice_volumes, heard_volumes, all_volumes}
use Rattle.dsp_state.specs.declared.registers.TheConstants.{VOLL, VOLR, PITCHL, PITCHH, SRCN, ADSR1, ADSR2, GAIN, ENVX, OUTX, ENDX, FIR, MVOLL, MVOLR, EVOLL, EVOLR, EFB, EON, FLG, ESA, EDL}
use Rattle.dsp_state.proofs.ReadOnce.{same_map}
use Rattle.mute_laws.specs.MutedVolumes.{is_muted_volume}

-- registers that differ in volumes of muted voices alone
pub record Differ (muted : ℕ) (these those : List ℕ) : Type 0 where
  pub count : length these ≡ length those
  pub others : (address : ℕ) → is_muted_volume muted address ≡ false → slice_index these address ≡ slice_index those address

no_volume : (b : Bool) → (b && (false || false)) ≡ false
no_volume true = refl
no_volume false = refl

-- a register whose place in its row of 16 is no volume's is none
pub not_volume : (muted address : ℕ) → 2 ≤ address % 16 → is_muted_volume muted address ≡ false
not_volume muted address above =
    let not_left : (address % 16 == VOLL) ≡ false = grind (arith, nat_tests, above) in
    let not_right : (address % 16 == VOLR) ≡ false = grind (arith, nat_tests, above) in
    rw (not_left, not_right) (no_volume (has_bit muted (address / 16)))

-- nor is one of a voice that isn't muted
heard_volume : (muted v register : ℕ) → register < 16 → has_bit muted v ≡ false → is_muted_volume muted (16 * v + register) ≡ false
heard_volume muted v register low heard = let row : (16 * v + register) / 16 ≡ v = omega (arith, low) in rw (row, heard) refl

module _ (muted : ℕ) (these those : List ℕ) (differ : Differ muted these those) where
  -- a register of a voice but its volumes
  same_register : (v register : ℕ) → 2 ≤ register → register < 16 → voice_register these v register ≡ voice_register those v register
  same_register v register above low = differ.others (16 * v + register) (not_volume muted (16 * v + register) (omega (arith, above, low)))

  -- a register of its row's end
  pub same_at : (address : ℕ) → 2 ≤ address % 16 → slice_index these address ≡ slice_index those address
  same_at address above = differ.others address (not_volume muted address above)

  pub same_regs : (v : ℕ) → voice_regs these v ≡ voice_regs those v
  unfolding voice_regs
  same_regs v =
      rw (
        same_register v PITCHL (omega arith) (omega arith),
        same_register v PITCHH (omega arith) (omega arith),
        same_register v SRCN (omega arith) (omega arith),
        same_register v ADSR1 (omega arith) (omega arith),
        same_register v ADSR2 (omega arith) (omega arith),
        same_register v GAIN (omega arith) (omega arith),
      ) refl

  -- the volumes at which a voice is heard
  same_heard : (v : ℕ) → heard_volumes these muted v ≡ heard_volumes those muted v
  unfolding heard_volumes voice_volumes
  same_heard v = by (has_bit muted v) refl
    where
      by : (b : Bool) → has_bit muted v ≡ b → (if b then no_volumes else voice_volumes these v) ≡ (if b then no_volumes else voice_volumes those v)
      by true e = refl
      by false e =
          let left : voice_register these v VOLL ≡ voice_register those v VOLL = differ.others (16 * v + VOLL) (heard_volume muted v VOLL (omega arith) e) in
          let right : voice_register these v VOLR ≡ voice_register those v VOLR = differ.others (16 * v + VOLR) (heard_volume muted v VOLR (omega arith) e) in
          rw (left, right, same_at EON (omega arith)) refl

  pub same_volumes : all_volumes these muted ≡ all_volumes those muted
  unfolding all_volumes
  same_volumes = same_map (λ v. heard_volumes these muted v) (λ v. heard_volumes those muted v) same_heard (range_with_len 0 8)

  pub same_echo : echo_regs these ≡ echo_regs those
  unfolding echo_regs
  same_echo =
      rw (
        same_map (λ i. slice_index these (16 * i + FIR)) (λ i. slice_index those (16 * i + FIR)) (λ i. same_at (16 * i + FIR) (omega arith)) (range_with_len 0 8),
        same_at ESA (omega arith),
        same_at EDL (omega arith),
        same_at FLG (omega arith),
        same_at EFB (omega arith),
        same_at MVOLL (omega arith),
        same_at MVOLR (omega arith),
        same_at EVOLL (omega arith),
        same_at EVOLR (omega arith),
      ) refl

-- a store in both
pub stored_in_both : (muted : ℕ) (these those : List ℕ) (at value : ℕ) → Differ muted these those → Differ muted (slice_set these at value) (slice_set those at value)
stored_in_both muted these those at value differ = record {
  count = length-set these at value ∙ differ.count ∙ sym (length-set those at value);
  others = λ address free. by address free (address == at) refl;
}
  where
    at_place : (address : ℕ) → is_muted_volume muted address ≡ false → address ≡ at → (b : Bool) → nat_lt at (length these) ≡ b
        → slice_index (slice_set these at value) address ≡ slice_index (slice_set those at value) address
    at_place address free here true e =
        let within : at < length these = grind (arith, nat_tests, e) in
        let within_those : at < length those = rw (← differ.count) within in
        rw here (get_or-set_same these at value 0 within ∙ sym (get_or-set_same those at value 0 within_those))
    at_place address free here false e =
        let past : length these ≤ at = grind (arith, nat_tests, e) in
        let past_those : length those ≤ at = rw (← differ.count) past in
        rw (set_past these at value past, set_past those at value past_those) (differ.others address free)

    by : (address : ℕ) → is_muted_volume muted address ≡ false → (b : Bool) → (address == at) ≡ b → slice_index (slice_set these at value) address ≡ slice_index (slice_set those at value) address
    by address free true e = let here : address ≡ at = grind (arith, nat_tests, e) in at_place address free here (nat_lt at (length these)) refl
    by address free false e =
        let other : address ≢ at = grind (arith, nat_tests, e) in
        get_or-set_other these at address value 0 other ∙ differ.others address free ∙ sym (get_or-set_other those at address value 0 other)

-- the results of a sample in both
levels_in_both : (muted v : ℕ) (answers : List VoiceOut) (these those : List ℕ) → Differ muted these those → Differ muted (with_levels_from v answers these) (with_levels_from v answers those)
levels_in_both muted v [] these those differ = differ
levels_in_both muted v (answer ∷ answers) these those differ =
    let first : Differ muted (slice_set these (16 * v + ENVX) answer.envx) (slice_set those (16 * v + ENVX) answer.envx) = stored_in_both muted these those (16 * v + ENVX) answer.envx differ in
    levels_in_both muted (v + 1) answers (slice_set (slice_set these (16 * v + ENVX) answer.envx) (16 * v + OUTX) answer.outx) (slice_set (slice_set those (16 * v + ENVX) answer.envx) (16 * v + OUTX) answer.outx)
    (stored_in_both muted (slice_set these (16 * v + ENVX) answer.envx) (slice_set those (16 * v + ENVX) answer.envx) (16 * v + OUTX) answer.outx first)

pub results_in_both : (muted : ℕ) (answers : List VoiceOut) (these those : List ℕ) → Differ muted these those → Differ muted (registers_after answers these) (registers_after answers those)
unfolding registers_after
results_in_both muted answers these those differ =
    let endx : slice_index these ENDX ≡ slice_index those ENDX = same_at muted these those differ ENDX (omega arith) in
    rw endx
    (stored_in_both muted (with_levels_from 0 answers these) (with_levels_from 0 answers those) ENDX (next_endx (slice_index those ENDX) answers) (levels_in_both muted 0 answers these those differ))
