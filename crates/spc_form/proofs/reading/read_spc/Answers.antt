use Rattle.std.proofs.Common.{◌≤◌, ◌∙◌, refl, length, arith, lit≤}
use Rattle.spc_form.specs.Accepted.{kept_length, signature}
use Rattle.spc_form.proofs.Signatures.{first_difference-padded_to}
use Rattle.spc_form.proofs.reading.read_spc.Goals as goal

pub invariant_of-result : goal.invariant_of-result
invariant_of-result c =
    let long : 27 ≤ length c.args.bytes.now = omega (arith, c.in_default.ensures.long refl) in (
      c.in_ok-bytes.ensures.len,
      rw c.in_ok-bytes.ensures.bytes (first_difference-padded_to kept_length signature c.args.bytes.now (lit≤ tt) long ∙ c.in_default.ensures.signed refl),
    )
