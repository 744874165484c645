use Rattle.std.proofs.Common.{rules, ◌≡◌, ◌<◌, arith, add-one, to_z, of_z, w16}
use Rattle.sample_rip.proofs.BlocksInOrder.{ends_after_block, samples_ahead_of_block, none_ahead}
use Rattle.sample_rip.proofs.walk.RipWalk.next.Goals as goal

pub returns-then-self-clause-samples : goal.returns-then-self-clause-samples
returns-then-self-clause-samples c = λ over. rw (← c.self.view_is, c.if-self.true) (none_ahead c.args.memory.now c.self.inside.start c.self.inside.blocks)

pub returns-clause-over : goal.returns-clause-over
returns-clause-over c = λ over.
    let a : to_z w16 (of_z w16 c.self.inside.last) ≡ c.self.inside.last = search rules in
    let b : to_z w16 (of_z w16 c.self.inside.before) ≡ c.self.inside.before = search rules in
    rw add-one (ends_after_block c.args.memory.now c.self.inside.start c.self.inside.passed c.self.inside.last c.self.inside.before c.decode_block-kept.result (rw (← c.self.view_is) at over) (rw (c.block_bytes-block.ensures, a, b) at c.decode_block-kept.ensures))

pub returns-clause-samples : goal.returns-clause-samples
returns-clause-samples c = λ over.
    let a : to_z w16 (of_z w16 c.self.inside.last) ≡ c.self.inside.last = search rules in
    let b : to_z w16 (of_z w16 c.self.inside.before) ≡ c.self.inside.before = search rules in
    let inside : c.self.inside.passed < c.self.inside.blocks = omega (arith, c.if-self.false, c.self.invariant) in
    rw (← c.self.view_is, add-one) (samples_ahead_of_block c.args.memory.now c.self.inside.start c.self.inside.passed c.self.inside.blocks c.self.inside.last c.self.inside.before c.decode_block-kept.result inside (rw (← c.self.view_is) at over) (rw (c.block_bytes-block.ensures, a, b) at c.decode_block-kept.ensures))

pub returns-clause-block : goal.returns-clause-block
returns-clause-block c =
    let a : to_z w16 (of_z w16 c.self.inside.last) ≡ c.self.inside.last = search rules in
    let b : to_z w16 (of_z w16 c.self.inside.before) ≡ c.self.inside.before = search rules in
    rw (← c.self.view_is) (rw (c.block_bytes-block.ensures, a, b) at c.decode_block-kept.ensures)
