use Rattle.std.proofs.Common.{◌≤◌, ℕ, slice_index, arith, below_more}
use Rattle.std.specs.Prelude.{bit_or}
use Rattle.std.specs.Int.{bit_at}
use Rattle.std.proofs.lemmas.Nat.{le_or_l, le_or_r}
use Rattle.std.proofs.lemmas.Nat.Bits.{bit_at_or}
use Rattle.voice_unit.proofs.all_voices.all_bits.Goals as goal

pub loop-j-preserved : goal.loop-j-preserved
loop-j-preserved c =
    let j : ℕ = c.loop-j.j in
    let now : ℕ = slice_index c.args.kon.now j in
    record {
      bits = λ i v below.
          below_more (λ i. bit_at (slice_index c.args.kon.now i) v ≤ bit_at (bit_or c.loop-j.all now) v) j
          (λ i below. omega (arith, bit_at_or c.loop-j.all now v, c.loop-j.invariant.bits i v below)) (omega (arith, bit_at_or c.loop-j.all now v)) i below;
      most =
          below_more (λ i. slice_index c.args.kon.now i ≤ bit_or c.loop-j.all now) j
          (λ i below. omega (arith, le_or_l c.loop-j.all now, c.loop-j.invariant.most i below)) (omega (arith, le_or_r c.loop-j.all now));
    }

pub returns : goal.returns
returns c = record { bits = λ j i below. c.loop-j.invariant.bits j i (omega (arith, below)); most = λ j below. c.loop-j.invariant.most j (omega (arith, below)) }
