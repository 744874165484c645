-- What files open and give that differ in volumes of muted voices alone.
use Rattle.std.proofs.Common.{◌≡◌, ℕ, ℤ, ◌+◌, ◌-◌, ◌/◌, ◌<◌, ◌≤◌, ◌&&◌, nat_le, nat_lt, List, length, drop, Bool, true, false, refl, ap, sym, ◌∙◌, arith}
use Rattle.std.specs.Prelude.{slice_index}
use Rattle.std.proofs.lemmas.Bool.Decides.{nat_tests}
use Rattle.std.proofs.lemmas.List.{get_or-take, get_or-drop, get_or_past, length-take, length-drop}
use Rattle.std.proofs.lemmas.Grind.{same_number_lists}
use Rattle.num_fix.specs.Arithmetic.{has_bit}
use Rattle.spc_form.specs.Layout.{part_of, memory_of, dsp_of, extra_of, dsp_place}
use Rattle.dsp_state.specs.declared.registers.TheConstants.{KON}
use Rattle.dsp_state.specs.Outside.{opened_state}
use Rattle.dsp_state.specs.declared.state.ChipState.{ChipState}
use Rattle.dsp_core.specs.DspChip.{dsp_chip}
use Rattle.lock_step.specs.Machine.{Machine}
use Rattle.lock_step.specs.LockStep.{lock_step}
use Rattle.render_core.specs.MachineRun.{Whole, after_run}
use Rattle.render_core.specs.Opening.{opened_cpu}
use Rattle.render_core.specs.Items.{records_before}
use Rattle.tune_opening.specs.Tune.{opened_tune}
use Rattle.mute_laws.specs.MutedVolumes.{is_muted_volume}
use Rattle.muted_runs.specs.Watching.{Watched, watched, begun_watching}
use Rattle.muted_runs.specs.MutedFiles.{holds_muted_volume, DifferInMutedVolumes, reads_muted_volume, SoundAlike}
use Rattle.muted_runs.proofs.BlindRuns.{run_seen, run_beside, with_chip}
use Rattle.muted_runs.proofs.AlikeChips.{AreAlikeMuted, dsp_is_blind}

entry-part_of : (bytes : List ℕ) (place count i : ℕ) → i < count → slice_index (part_of bytes place count) i ≡ slice_index bytes (place + i)
unfolding part_of
entry-part_of bytes place count i low = get_or-take count (drop place bytes) i 0 low ∙ get_or-drop place bytes i 0

length-part_of : (bytes : List ℕ) (place count : ℕ) → length (part_of bytes place count) ≤ count
unfolding part_of
length-part_of bytes place count = let cut = length-take count (drop place bytes) in omega (arith, cut)

-- no volume stands before the registers of the S-DSP, and none after them
before_registers : (muted place : ℕ) → place < dsp_place → holds_muted_volume muted place ≡ false
before_registers muted place low = let before : nat_le dsp_place place ≡ false = grind (arith, nat_tests, low) in rw before refl

after_registers : (muted place : ℕ) → dsp_place + 0x80 ≤ place → holds_muted_volume muted place ≡ false
after_registers muted place high =
    let from : nat_le dsp_place place ≡ true = grind (arith, nat_tests, high) in
    let after : nat_lt place (dsp_place + 0x80) ≡ false = grind (arith, nat_tests, high) in
    rw (from, after) refl

among_registers : (muted address : ℕ) → address < 0x80 → holds_muted_volume muted (dsp_place + address) ≡ is_muted_volume muted address
among_registers muted address low =
    let from : nat_le dsp_place (dsp_place + address) ≡ true = grind (arith, nat_tests, low) in
    let to : nat_lt (dsp_place + address) (dsp_place + 0x80) ≡ true = grind (arith, nat_tests, low) in
    let is : dsp_place + address - dsp_place ≡ address = omega arith in
    rw (from, to, is) refl

and_false : (b : Bool) → (b && false) ≡ false
and_false true = refl
and_false false = refl

-- the keys aren't such a volume
keys_stay : (muted : ℕ) → is_muted_volume muted KON ≡ false
keys_stay muted = and_false (has_bit muted (KON / 16))

module _ (muted : ℕ) (file other : List ℕ) (differ : DifferInMutedVolumes muted file other) where
  same_length : (place count : ℕ) → length (part_of file place count) ≡ length (part_of other place count)
  unfolding part_of
  same_length place count =
      let one = length-take count (drop place file) in
      let two = length-take count (drop place other) in
      rw (length-take count (drop place file), length-take count (drop place other), length-drop place file, length-drop place other, differ.count) refl

  same_part : (place count : ℕ) → ((i : ℕ) → i < count → holds_muted_volume muted (place + i) ≡ false) → part_of file place count ≡ part_of other place count
  same_part place count free =
      same_number_lists (part_of file place count) (part_of other place count) (same_length place count) (λ i within.
      let low : i < count = let most = length-part_of file place count in omega (arith, within, most) in
      entry-part_of file place count i low ∙ differ.others (place + i) (free i low) ∙ sym (entry-part_of other place count i low))

  same_memory : memory_of file ≡ memory_of other
  same_memory = same_part 0x100 0x10000 (λ i low. before_registers muted (0x100 + i) (omega (arith, low)))

  same_extra : extra_of file ≡ extra_of other
  same_extra = same_part 0x101C0 64 (λ i low. after_registers muted (0x101C0 + i) (omega arith))

  at : (place : ℕ) → place < 0x100 → slice_index file place ≡ slice_index other place
  at place low = differ.others place (before_registers muted place (omega (arith, low)))

  same_cpu : opened_cpu file ≡ opened_cpu other
  same_cpu =
      rw (
        at 0x25 (omega arith),
        at 0x26 (omega arith),
        at 0x27 (omega arith),
        at 0x28 (omega arith),
        at 0x29 (omega arith),
        at 0x2A (omega arith),
        at 0x2B (omega arith),
      ) refl

  same_registers : (address : ℕ) → is_muted_volume muted address ≡ false → slice_index (dsp_of file) address ≡ slice_index (dsp_of other) address
  same_registers address free = by (nat_lt address 0x80) refl
    where
      by : (b : Bool) → nat_lt address 0x80 ≡ b → slice_index (dsp_of file) address ≡ slice_index (dsp_of other) address
      by true is =
          let low : address < 0x80 = grind (arith, nat_tests, is) in
          entry-part_of file dsp_place 0x80 address low
          ∙ differ.others (dsp_place + address) (among_registers muted address low ∙ free)
          ∙ sym (entry-part_of other dsp_place 0x80 address low)
      by false is =
          let high : 0x80 ≤ address = grind (arith, nat_tests, is) in
          let one = length-part_of file dsp_place 0x80 in
          let two = length-part_of other dsp_place 0x80 in
          get_or_past (dsp_of file) address 0 (omega (arith, high, one)) ∙ sym (get_or_past (dsp_of other) address 0 (omega (arith, high, two)))

  module _ (table : List ℤ) where
    abbrev chip_of_file : ChipState
    chip_of_file = opened_state (dsp_of file) table muted

    abbrev chip_of_other : ChipState
    chip_of_other = opened_state (dsp_of other) table muted

    alike_chips : AreAlikeMuted muted chip_of_file chip_of_other
    unfolding opened_state
    alike_chips = record {
      own = refl;
      alike = record { rest = rw (same_registers KON (keys_stay muted)) refl; count = same_length dsp_place 0x80; others = same_registers };
    }

    same_opening : (mask : ℕ) → opened_tune other table muted mask ≡ (opened_cpu file, with_chip (opened_tune file table muted mask).1 chip_of_other)
    same_opening mask = rw (same_cpu, same_memory, same_extra) refl

    pub sound_alike : (mask samples : ℕ) → reads_muted_volume file table muted mask samples ≡ false → SoundAlike file other table muted mask samples
    sound_alike mask samples unread =
        let hidden : ℕ → Bool = is_muted_volume muted in
        let w : Whole (Machine ChipState) = opened_tune file table muted mask in
        let own : Whole (Machine ChipState) = after_run (lock_step dsp_chip) samples w in
        let others : Whole (Machine ChipState) = after_run (lock_step dsp_chip) samples (opened_tune other table muted mask) in
        let seen : Whole (Watched ChipState) = after_run (watched dsp_chip hidden) samples (begun_watching w) in
        let beside = run_beside dsp_chip hidden (AreAlikeMuted muted) (dsp_is_blind muted) samples w chip_of_other alike_chips unread in
        let first : own ≡ (seen.0, seen.1.machine) = run_seen dsp_chip hidden samples w in
        let second : others ≡ (seen.0, with_chip seen.1.machine beside.other) =
        ap (λ (v : Whole (Machine ChipState)). after_run (lock_step dsp_chip) samples v) (same_opening mask) ∙ beside.is in
        record {
          frames = ap (λ (v : Whole (Machine ChipState)). v.1.frames) first ∙ sym (ap (λ (v : Whole (Machine ChipState)). v.1.frames) second);
          records = ap (λ (v : Whole (Machine ChipState)). records_before samples v.1.records) first
              ∙ sym (ap (λ (v : Whole (Machine ChipState)). records_before samples v.1.records) second);
        }
