use Rattle.std.proofs.Common.{◌≡◌, ◌≤◌, ◌+◌, ◌*◌, slice_index, length}
use Rattle.voice_batch.specs.Row.{ArePhases}
use Rattle.voice_batch.specs.SpanPhases.{pitches_from}
use Rattle.voice_batch.proofs.span_phases.put_clamped_phases.Given as goal

abbrev pub invariant-loop-j : goal.invariant-loop-j
invariant-loop-j l = record {
  phases : ArePhases (pitches_from l.pitches l.at) l.j l.position (slice_index l.phases);
  phase : l.phase ≡ slice_index l.phases l.j;
  bound : l.phase ≤ 0x7fff + l.j * 0x7fff;
  long : length l.phases ≡ 65;
}
