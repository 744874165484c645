use Rattle.std.proofs.Common.{◌≡◌, ◌⊎◌, drop, length}
use Rattle.dsp_state.specs.Reach.{entries_from, starts_from}
use Rattle.batch_rows.specs.BoundingPages.{bounding_voice_pages, window_from, AreApart}
use Rattle.batch_rows.proofs.bounds.are_bounds_apart.Given as goal

abbrev pub invariant-loop-v : goal.invariant-loop-v
invariant-loop-v l = record {
  rest : AreApart (bounding_voice_pages (starts_from l.state l.memory l.v (drop l.v l.state.hidden.voices)) (entries_from l.state.registers l.v (drop l.v l.state.hidden.voices))) (window_from l.esa l.len)
      → AreApart (bounding_voice_pages (starts_from l.state l.memory 0 l.state.hidden.voices) (entries_from l.state.registers 0 l.state.hidden.voices)) (window_from l.esa l.len);
  eight : (l.v ≡ 0) ⊎ (length l.state.hidden.voices ≡ 8);
}
