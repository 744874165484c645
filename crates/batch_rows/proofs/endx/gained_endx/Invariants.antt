use Rattle.std.proofs.Common.{◌≡◌, ℕ, List}
use Rattle.voice_unit.specs.declared.interface.VoiceOut.{VoiceOut}
use Rattle.batch_rows.specs.Once.{endx_after, AreBits}
use Rattle.batch_rows.proofs.endx.gained_endx.Given as goal

abbrev pub invariant-loop-j : goal.invariant-loop-j
invariant-loop-j l = record {
  endx : (answers : ℕ → List VoiceOut) → AreBits l.n answers l.rows l.ends → l.now ≡ endx_after answers l.endx l.j;
}
