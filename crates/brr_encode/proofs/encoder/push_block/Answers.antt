use Rattle.std.proofs.Common.{rules, ◌≡◌, ◌∙◌, to_z, of_z, w16, append_assoc, refl}
use Rattle.brr_encode.proofs.Coders.{errors_after}
use Rattle.brr_encode.proofs.encoder.push_block.Goals as goal

pub returns-clause-bytes : goal.returns-clause-bytes
returns-clause-bytes c =
    let a : to_z w16 (of_z w16 c.args.coder.last) ≡ c.args.coder.last = search rules in
    let b : to_z w16 (of_z w16 c.args.coder.before) ≡ c.args.coder.before = search rules in
    let best = rw (a, b) at c.best_header-header.ensures.best in
    let digits = rw (a, b) at c.in_ok-coder.ensures.bytes in
    rw (digits, c.in_ok-push.ensures.items, best, c.end_bits.ensures.value) (append_assoc c.args.bytes.now.items _ _)

pub returns-clause-reports : goal.returns-clause-reports
returns-clause-reports c =
    let a : to_z w16 (of_z w16 c.args.coder.last) ≡ c.args.coder.last = search rules in
    let b : to_z w16 (of_z w16 c.args.coder.before) ≡ c.args.coder.before = search rules in
    let best = rw (a, b) at c.best_header-header.ensures.best in
    let coder = rw (a, b, best) at c.in_ok-coder.ensures.coder in
    let errors = errors_after c.args.place.first c.args.coder.last c.args.coder.before c.args.targets.now c.in_ok-coder.coder coder in
    c.in_ok-push-2.ensures.items ∙ rw (best, c.end_bits.ensures.value, errors.0, errors.1) refl
