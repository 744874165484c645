use Rattle.std.proofs.Common.{◌≡◌, ◌<◌, ◌≤◌, ◌+◌, ◌-◌, ◌*◌, ℕ, true, take, slice_index}
use Rattle.aram_core.specs.Memory.{byte_at}
use Rattle.voice_unit.specs.Voice.{is_silencing}
use Rattle.voice_batch.specs.Row.{IsGroup, place_after, kept_row}
use Rattle.voice_batch.specs.SpanPhases.{phase_at}
use Rattle.voice_batch.proofs.EndBits.{bit_if, marked}
use Rattle.voice_batch.proofs.span_plan.SpanPlan.read_span.Given as goal

abbrev pub invariant-blocks-2 : goal.invariant-blocks-2
invariant-blocks-2 l = record {
  few : l.d ≤ l.count;
  row : take (12 + 4 * l.d) l.row ≡ kept_row l.memory l.self.loop_word l.self.first (take 12 l.initial.row) l.d;
  there : l.place ≡ place_after l.memory l.self.loop_word l.self.first l.d;
  group : IsGroup l.place;
  header : l.header ≡ byte_at l.memory l.place.block;
  marks : (j : ℕ) → j < l.n → slice_index l.ends (l.at + j)
      ≡ slice_index l.initial.ends (l.at + j) + bit_if (marked l.memory l.self.loop_word l.self.first (phase_at l.self.span_phases) l.self.voice l.d j) l.self.voice;
  before : (i : ℕ) → i < l.at → slice_index l.ends i ≡ slice_index l.initial.ends i;
  later : (i : ℕ) → l.at + l.n ≤ i → slice_index l.ends i ≡ slice_index l.initial.ends i;
  quiet : (is_silencing l.self.reset (byte_at l.memory l.self.first.block) ≡ true → l.self.silent ≡ true)
      → (e : ℕ) → e ≤ l.d → is_silencing l.self.reset (byte_at l.memory (place_after l.memory l.self.loop_word l.self.first e).block) ≡ true → l.self.silent ≡ true;
}

abbrev pub decreases-blocks-2 : goal.decreases-blocks-2
decreases-blocks-2 l = l.count - l.d
