use Rattle.std.proofs.Common.{ℕ, replicate, arith}
use Rattle.std.proofs.lemmas.List.{get_or-replicate}
use Rattle.voice_unit.specs.KeyBits.{HasBitsOf}
use Rattle.voice_unit.proofs.all_voices.BatchRows.unkeyed.Goals as goal

-- no sample has a bit
none : HasBitsOf (replicate 64 0) 0
none = record {
  bits = λ j i below. rw (get_or-replicate {A = ℕ} 64 j 0 0 below) (omega arith);
  most = λ j below. rw (get_or-replicate {A = ℕ} 64 j 0 0 below) (omega arith);
}

pub invariant_of-result : goal.invariant_of-result
invariant_of-result c = record { has_bits = none }
