use Rattle.std.proofs.Common.{◌≡◌, ◌≢◌, ◌<◌, ◌≤◌, ◌+◌, ◌*◌, slice_index, ◌==◌, Bool, true, false, refl, arith}
use Rattle.std.proofs.lemmas.Bool.Decides.{nat_tests}
use Rattle.voice_batch.specs.Row.{groups_before}
use Rattle.voice_batch.proofs.Counting.{Reads, first_past, none_past}
use Rattle.voice_batch.proofs.span_phases.sample_at_phase.Goals as goal

pub loop-j-init : goal.loop-j-init
loop-j-init c i below = absurd (omega (arith, below))

reads : (c : goal.Then-phases-from) → Reads (slice_index c.args.phases.now) c.args.group c.loop-j.j
reads c =
    let past : 0x4000 * (c.args.group + 1) ≤ slice_index c.args.phases.now c.loop-j.j = rw (c.from.ensures, c.from-in-loop-j.ensures) at c.if-phases-from.true in
    first_past (slice_index c.args.phases.now) c.args.n c.args.group c.loop-j.j c.requires.moves c.loop-j-test.true c.loop-j.invariant past

pub returns-then-phases-from-clause-before : goal.returns-then-phases-from-clause-before
returns-then-phases-from-clause-before c = (reads c).before

pub returns-then-phases-from-clause-after : goal.returns-then-phases-from-clause-after
returns-then-phases-from-clause-after c = (reads c).after

pub loop-j-preserved : goal.loop-j-preserved
loop-j-preserved c i below = by (i == c.loop-j.j) refl
  where
    by : (b : Bool) → (i == c.loop-j.j) ≡ b → slice_index c.args.phases.now i < 0x4000 * (c.args.group + 1)
    by true e =
        let here : i ≡ c.loop-j.j = grind (arith, nat_tests, e) in
        let under : slice_index c.args.phases.now c.loop-j.j < 0x4000 * (c.args.group + 1) = rw (c.from.ensures, c.from-in-loop-j.ensures) at c.if-phases-from.false in
        rw here under
    by false e = let other : i ≢ c.loop-j.j = grind (arith, nat_tests, e) in c.loop-j.invariant i (omega (arith, below, other))

-- the group is read, so that one of the samples stands past it
none_left : (c : goal.After-loop-j) → groups_before (slice_index c.args.phases.now) c.args.n ≤ c.args.group
none_left c = none_past (slice_index c.args.phases.now) c.args.n c.args.group (λ i below. c.loop-j.invariant i (omega (arith, below, c.loop-j-test.false, c.loop-j.auto.j-end)))

pub returns-clause-within : goal.returns-clause-within
returns-clause-within c = absurd (omega (arith, none_left c, c.requires.read))

pub returns-clause-before : goal.returns-clause-before
returns-clause-before c = absurd (omega (arith, none_left c, c.requires.read))

pub returns-clause-after : goal.returns-clause-after
returns-clause-after c = absurd (omega (arith, none_left c, c.requires.read))
