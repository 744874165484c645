-- How far the samples of a span stand in the row of kept samples.
use Rattle.std.specs.Prelude.{ℕ, ◌+◌, ◌*◌, ◌/◌, ◌<◌, ◌≤◌, List, slice_index, if◌then◌else◌}
use Rattle.voice_batch.specs.declared.span_phases.SpanPhases.{SpanPhases}

-- how far sample j stands where each stands a pitch after the one before
abbrev pub steady_phases : (position pitch : ℕ) → (j : ℕ) → ℕ
steady_phases position pitch j = position + j * pitch

-- how far sample j stands
unfoldable pub phase_at : SpanPhases → (j : ℕ) → ℕ
phase_at span_phases j = if span_phases.modulated then slice_index span_phases.phases.now j else steady_phases span_phases.position span_phases.pitch j

-- the pitches of a batch from one of its samples on
abbrev pub pitches_from : (pitches : List ℕ) → (at : ℕ) → (j : ℕ) → ℕ
pitches_from pitches at j = slice_index pitches (at + j)

-- n samples, and the one after them, stand one after another, and each reads one group at most
pub record MoveOn (phases : ℕ → ℕ) (n : ℕ) : Type 0 where
  pub first : phases 0 < 0x8000
  pub rise : (j : ℕ) → j < n → phases j ≤ phases (j + 1)
  pub near : (j : ℕ) → j < n → phases (j + 1) < 0x4000 * (phases j / 0x4000) + 0x8000

-- the bounds of a span of n samples
pub record AreSpanPhases (span_phases : SpanPhases) (n : ℕ) : Type 0 where
  pub position : span_phases.position < 0x8000
  pub pitch : span_phases.pitch < 0x4000
  pub moves : MoveOn (phase_at span_phases) n
