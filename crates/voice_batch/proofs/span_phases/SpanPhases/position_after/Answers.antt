use Rattle.std.proofs.Common.{◌≡◌, ◌<◌, ◌≤◌, ◌+◌, ◌*◌, ◌-◌, ℕ, arith}
use Rattle.voice_batch.specs.SpanPhases.{phase_at}
use Rattle.voice_batch.proofs.Counting.{after_from, after_to}
use Rattle.voice_batch.proofs.span_phases.SpanPhases.position_after.Goals as goal

-- where the samples have come to
record IsAfter (phase groups : ℕ) : Type 0 where
  from : 0x4000 * groups ≤ phase
  to : phase < 0x4000 * groups + 0x8000

is_after : (c : goal.After-from) → IsAfter c.phase.result c.from.result
is_after c =
    let last : c.args.span.now.samples - 1 + 1 ≡ c.args.span.now.samples = omega (arith, c.requires.some) in
    let below : c.args.span.now.samples - 1 < c.args.span.now.samples = omega (arith, c.requires.some) in
    let from = rw last at (after_from (phase_at c.args.self.now) c.args.span.now.samples c.requires.span_phases.moves (c.args.span.now.samples - 1) below) in
    let to = rw last at (after_to (phase_at c.args.self.now) c.args.span.now.samples c.requires.span_phases.moves (c.args.span.now.samples - 1) below) in
    rw (c.phase.ensures, c.from.ensures, c.requires.groups) (record { from = from; to = to })

pub overflow_sub-result : goal.overflow_sub-result
overflow_sub-result c = (is_after c).from

pub overflow_cast-result : goal.overflow_cast-result
overflow_cast-result c = omega (arith, (is_after c).from, (is_after c).to)

pub returns-clause-value : goal.returns-clause-value
returns-clause-value c = omega (arith, (is_after c).from, c.phase.ensures, c.from.ensures)

pub returns-clause-within : goal.returns-clause-within
returns-clause-within c = omega (arith, (is_after c).to)
