use Rattle.std.proofs.Common.{◌<◌, ◌+◌, ◌*◌, ℕ, slice_index}
use Rattle.voice_batch.proofs.span_phases.sample_at_phase.Given as goal

abbrev pub invariant-loop-j : goal.invariant-loop-j
invariant-loop-j l = (i : ℕ) → i < l.j → slice_index l.phases i < 0x4000 * (l.group + 1)
