use Rattle.std.proofs.Common.{rules, ◌≢◌, ◌<◌, ◌≤◌, sym, arith}
use Rattle.std.specs.Prelude.{slice_index}
use Rattle.spc_form.specs.Accepted.{signature}
use Rattle.spc_form.proofs.Signatures.{none_differs, first_differs}
use Rattle.spc_form.proofs.reading.first_difference.Goals as goal

pub returns-then-bytes-i : goal.returns-then-bytes-i
returns-then-bytes-i c =
    let small : c.loop-i.i < 27 = omega (arith, c.loop-i-test.true) in
    let differs : slice_index c.args.bytes.now c.loop-i.i ≢ slice_index signature c.loop-i.i = search rules in
    sym (first_differs signature c.args.bytes.now c.loop-i.i c.requires small differs c.loop-i.invariant)

pub returns : goal.returns
returns c =
    let done : 27 ≤ c.loop-i.i = omega (arith, c.loop-i-test.false) in
    sym (none_differs signature c.args.bytes.now c.requires (λ k small. c.loop-i.invariant k (omega (arith, small, done))))
