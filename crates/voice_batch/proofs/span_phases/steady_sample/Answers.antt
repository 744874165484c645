use Rattle.std.proofs.Common.{arith}
use Rattle.voice_batch.specs.SpanPhases.{steady_phases}
use Rattle.voice_batch.proofs.Counting.{first_of, moves, reads_at_once, reader}
use Rattle.voice_batch.proofs.span_phases.steady_sample.Goals as goal

pub returns-then-from-end-clause-within : goal.returns-then-from-end-clause-within
returns-then-from-end-clause-within c =
    first_of (steady_phases c.args.position c.args.pitch) c.args.n c.args.group c.requires.read

pub returns-then-from-end-clause-before : goal.returns-then-from-end-clause-before
returns-then-from-end-clause-before c =
    (reads_at_once c.args.position c.args.pitch c.args.group c.requires.position c.requires.pitch (omega arith)).before

pub returns-then-from-end-clause-after : goal.returns-then-from-end-clause-after
returns-then-from-end-clause-after c =
    (reads_at_once c.args.position c.args.pitch c.args.group c.requires.position c.requires.pitch (omega arith)).after

pub nonzero_div-result : goal.nonzero_div-result
nonzero_div-result c = rw c.from-2.ensures (moves c.args.position c.args.pitch c.args.group c.args.n (omega arith) c.requires.read)

pub overflow_cast-result : goal.overflow_cast-result
overflow_cast-result c =
    let is = reader c.args.position c.args.pitch c.args.group c.args.n c.requires.position c.requires.pitch (omega arith) c.requires.read in
    rw (c.from.ensures, c.from-from.ensures, c.from-2.ensures) (omega (arith, is.within, c.requires.few))

pub returns-clause-within : goal.returns-clause-within
returns-clause-within c =
    rw (c.from.ensures, c.from-from.ensures, c.from-2.ensures) (reader c.args.position c.args.pitch c.args.group c.args.n c.requires.position c.requires.pitch (omega arith) c.requires.read).within

pub returns-clause-before : goal.returns-clause-before
returns-clause-before c =
    rw (c.from.ensures, c.from-from.ensures, c.from-2.ensures) (reader c.args.position c.args.pitch c.args.group c.args.n c.requires.position c.requires.pitch (omega arith) c.requires.read).reads.before

pub returns-clause-after : goal.returns-clause-after
returns-clause-after c =
    rw (c.from.ensures, c.from-from.ensures, c.from-2.ensures) (reader c.args.position c.args.pitch c.args.group c.args.n c.requires.position c.requires.pitch (omega arith) c.requires.read).reads.after
