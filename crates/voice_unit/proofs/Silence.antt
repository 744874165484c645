-- At level 0 a voice puts out 0.
use Rattle.std.proofs.Common.{◌≡◌, List, ℤ, pos, refl}
use Rattle.std.proofs.Math.IntN.{*ℤ-zero}
use Rattle.num_fix.specs.Arithmetic.{clear_bit0, floor_shift, scaled}
use Rattle.voice_unit.specs.Voice.{VoiceState, output}
use Rattle.voice_unit.specs.declared.interface.VoiceIn.{VoiceIn}

pub silence : (z : ℤ) → pos 0 ≡ clear_bit0 (scaled z (pos 0) 11)
unfolding clear_bit0 floor_shift scaled
silence z = rw *ℤ-zero refl

-- at level 0 the output is 0
pub output-silent : (v : VoiceState) (i : VoiceIn) (table : List ℤ) → v.envelope.level ≡ 0 → pos 0 ≡ output v i table
unfolding output
output-silent v i table quiet = rw quiet (silence _)
