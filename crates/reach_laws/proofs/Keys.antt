-- A key-on that is latched was pending, and no sample makes more key-ons pending.
use Rattle.std.proofs.Common.{◌≡◌, ℕ, ◌-◌, ◌%◌, ◌<◌, ◌==◌, min, Bool, true, false, bit_and, if◌then◌else◌, arith}
use Rattle.std.proofs.lemmas.Bool.Decides.{nat_tests}
use Rattle.std.proofs.lemmas.Nat.Bits.{bit_at_and, bit_at-lt}
use Rattle.std.specs.Int.{bit_at}
use Rattle.num_fix.specs.Arithmetic.{has_bit}
use Rattle.dsp_state.specs.Results.{without_bits}
use Rattle.dsp_state.specs.Sample.{after_poll, after_noise, before_voices}
use Rattle.dsp_state.specs.declared.state.ChipState.{ChipState}

-- every bit of a byte is set in another
abbrev pub IsPart : (byte whole : ℕ) → Type 0
IsPart byte whole = (v : ℕ) → has_bit byte v ≡ true → has_bit whole v ≡ true

is_part-bit_and : (a b : ℕ) → IsPart (bit_and a b) a
is_part-bit_and a b v h =
    let both : bit_at (bit_and a b) v ≡ min (bit_at a v) (bit_at b v) = bit_at_and a b v in
    let one : bit_at (bit_and a b) v ≡ 1 = grind (arith, nat_tests, h) in
    let small : bit_at a v < 2 = bit_at-lt a v in
    let bit : bit_at a v ≡ 1 = omega (arith, both, one, small) in
    grind (arith, nat_tests, bit)

is_part-without_bits : (byte bits : ℕ) → IsPart (without_bits byte bits) byte
is_part-without_bits byte bits = is_part-bit_and byte (0xff - bits)

-- the poll and the noise make no more key-ons pending
pub kon_pending-before_voices : (s : ChipState) (k : ℕ) → IsPart (before_voices s k).hidden.kon_pending s.hidden.kon_pending
unfolding after_poll after_noise
kon_pending-before_voices s k = by (k % 2 == 0)
  where
    kon_pending : ℕ
    kon_pending = without_bits s.hidden.kon_pending s.hidden.kon_latched

    by : (b : Bool) → IsPart (if b then record s { hidden = record s.hidden { kon_pending = kon_pending; kon_latched = kon_pending } } else s).hidden.kon_pending s.hidden.kon_pending
    by true = is_part-without_bits s.hidden.kon_pending s.hidden.kon_latched
    by false = λ v h. h

-- a key-on that a poll latches was pending
pub latched_was_pending : (s : ChipState) (k v : ℕ) → (k % 2 == 0) ≡ true → has_bit (before_voices s k).hidden.kon_latched v ≡ true → has_bit s.hidden.kon_pending v ≡ true
unfolding after_poll after_noise
latched_was_pending s k v even h = is_part-without_bits s.hidden.kon_pending s.hidden.kon_latched v (rw even at h)
