use Rattle.std.proofs.Common.{◌≡◌, ◌≤◌, ◌+◌, ◌-◌, ◌/◌, sym, arith}
use Rattle.voice_batch.specs.Row.{groups_before}
use Rattle.voice_batch.specs.SpanPhases.{phase_at}
use Rattle.voice_batch.proofs.Counting.{groups_before-more, few_groups}
use Rattle.voice_batch.proofs.span_phases.SpanPhases.groups_in.Goals as goal

read : (c : goal.After-phase) → c.phase.result / 0x4000 ≡ groups_before (phase_at c.args.self.now) c.args.n
read c =
    let all : c.args.n - 1 + 1 ≡ c.args.n = omega (arith, c.requires.some) in
    let more = rw all at (groups_before-more (phase_at c.args.self.now) (c.args.n - 1)) in
    rw c.phase.ensures (sym more)

few : (c : goal.After-phase) → groups_before (phase_at c.args.self.now) c.args.n ≤ c.args.n
few c = few_groups (phase_at c.args.self.now) c.args.n c.requires.span_phases.moves c.args.n (omega arith)

pub overflow_cast-result : goal.overflow_cast-result
overflow_cast-result c = omega (arith, read c, few c, c.requires.few)

pub returns-clause-value : goal.returns-clause-value
returns-clause-value c = read c

pub returns-clause-few : goal.returns-clause-few
returns-clause-few c = omega (arith, read c, few c, c.requires.few)
