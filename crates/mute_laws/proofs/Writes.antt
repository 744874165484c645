-- Reads and writes of chips that differ in volumes of muted voices alone.
use Rattle.std.proofs.Common.{◌≡◌, ◌≢◌, ℕ, ◌/◌, ◌%◌, ◌<◌, ◌==◌, ◌&&◌, ◌||◌, nat_le, List, Bool, true, false, length, slice_index, slice_set, if◌then◌else◌, refl, ap, sym, ◌∙◌, arith}
use Rattle.std.proofs.lemmas.Bool.{and_parts}
use Rattle.std.proofs.lemmas.Bool.Decides.{nat_tests}
use Rattle.std.proofs.lemmas.List.{length-set, get_or-set_other}
use Rattle.num_fix.specs.Arithmetic.{has_bit}
use Rattle.dsp_state.specs.Outside.{register_read, register_write}
use Rattle.dsp_state.specs.declared.registers.TheConstants.{VOLL, VOLR, KON, ENDX}
use Rattle.dsp_state.specs.declared.state.ChipState.{ChipState}
use Rattle.mute_laws.specs.MutedVolumes.{is_muted_volume, AreAlike}
use Rattle.mute_laws.proofs.Registers.{Differ, stored_in_both}
use Rattle.mute_laws.proofs.Alike.{with_registers, alike_from, differ_of}

pub reads_stay_alike : (s t : ChipState) (address : ℕ) → AreAlike s t → is_muted_volume s.muted (address % 0x80) ≡ false → register_read s address ≡ register_read t address
unfolding register_read
reads_stay_alike s t address alike free = alike.others (address % 0x80) free

-- a write of a chip with other registers
module _ (s : ChipState) (registers : List ℕ) (address value kon_pending : ℕ) where
  with_written : (b : Bool) → (if b then with_registers s registers else record (with_registers s registers) { registers = slice_set registers address value; hidden = record s.hidden { kon_pending = kon_pending } })
      ≡ with_registers (if b then s else record s { registers = slice_set s.registers address value; hidden = record s.hidden { kon_pending = kon_pending } }) (if b then registers else slice_set registers address value)
  with_written true = refl
  with_written false = refl

  differ_written : (b : Bool) → Differ s.muted s.registers registers
      → Differ (if b then s else record s { registers = slice_set s.registers address value; hidden = record s.hidden { kon_pending = kon_pending } }).muted
      (if b then s else record s { registers = slice_set s.registers address value; hidden = record s.hidden { kon_pending = kon_pending } }).registers
      (if b then registers else slice_set registers address value)
  differ_written true differ = differ
  differ_written false differ = stored_in_both s.muted s.registers registers address value differ

pub writes_stay_alike : (s t : ChipState) (address byte : ℕ) → AreAlike s t → AreAlike (register_write s address byte) (register_write t address byte)
unfolding register_write
writes_stay_alike s t address byte alike =
    let value : ℕ = if address == ENDX then 0 else byte in
    let kon_pending : ℕ = if address == KON then byte else s.hidden.kon_pending in
    let high : Bool = nat_le 0x80 address in
    alike_from (register_write s address byte) (register_write t address byte) (if high then t.registers else slice_set t.registers address value)
    (ap (λ (u : ChipState). register_write u address byte) alike.rest ∙ with_written s t.registers address value kon_pending high)
    (differ_written s t.registers address value kon_pending high (differ_of s t alike))

-- the place of a muted voice's volume in its row
low_place : (a b : Bool) (place : ℕ) → (place == VOLL) ≡ a → (place == VOLR) ≡ b → (a || b) ≡ true → place < 2
low_place true b place left right either = let at : place ≡ 0 = grind (arith, nat_tests, left) in omega (arith, at)
low_place false true place left right either = let at : place ≡ 1 = grind (arith, nat_tests, right) in omega (arith, at)
low_place false false place left right either = cc

pub muted_writes_stay_alike : (s t : ChipState) (address byte : ℕ) → AreAlike s t → address < 0x80 → is_muted_volume s.muted address ≡ true → AreAlike s (register_write t address byte)
unfolding register_write
muted_writes_stay_alike s t address byte alike low volume =
    let value : ℕ = if address == ENDX then 0 else byte in
    let place : address % 16 < 2 = low_place _ _ (address % 16) refl refl (and_parts (has_bit s.muted (address / 16)) (address % 16 == VOLL || address % 16 == VOLR) volume).1 in
    let not_high : nat_le 0x80 address ≡ false = grind (arith, nat_tests, low) in
    let not_kon : (address == KON) ≡ false = grind (arith, nat_tests, place) in
    let is : register_write t address byte ≡ with_registers t (slice_set t.registers address value) = rw (not_high, not_kon) refl in
    let whole : register_write t address byte ≡ with_registers s (slice_set t.registers address value) =
    is ∙ ap (λ (u : ChipState). with_registers u (slice_set t.registers address value)) alike.rest in
    alike_from s (register_write t address byte) (slice_set t.registers address value) whole record {
      count = alike.count ∙ sym (length-set t.registers address value);
      others = λ at free.
          let other : at ≢ address = λ e. let same : is_muted_volume s.muted at ≡ true = rw e volume in cc in
          alike.others at free ∙ sym (get_or-set_other t.registers address at value 0 other);
    }
