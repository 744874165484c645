use Rattle.std.proofs.Common.{◌≡◌, ◌+◌, ◌<◌, ◌^◌, drop}
use Rattle.voice_unit.specs.declared.interface.VoiceOut.{VoiceOut}
use Rattle.dsp_state.specs.Results.{bits_from}
use Rattle.dsp_state.proofs.results.ended_bits.Given as goal

abbrev pub invariant-loop-v : goal.invariant-loop-v
invariant-loop-v l = record {
  so_far : bits_from (λ (answer : VoiceOut). answer.ended) 0 l.answers ≡ l.bits + bits_from (λ (answer : VoiceOut). answer.ended) l.v (drop l.v l.answers);
  bound : l.bits < 2 ^ l.v;
}
